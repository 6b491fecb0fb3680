use Rattle.std.proofs.Common.{subst}
use Rattle.tv_managed.specs.Reading.{ReadsBody}
use Rattle.tv_managed.proofs.laws.sealed_bytes_are_read_back.Goals as goal

pub returns : goal.returns
returns g c tells lives summed same =
    let D = g.D.Directory in
    let file = D.state_of c.args.writer.writer in
    let body = c.in_ok-terminate.ensures.seals.body tells lives summed in
    c.in_ok-get_file_handle.ensures.back tells file.written (subst (λ n. ReadsBody ((D.view c.terminate.new.self.0).reads n) file.written) same body)
