use Rattle.std.proofs.Common.{◌≡◌, ◌++◌, List, [], ℕ, ap, ◌∙◌, append_assoc}
use Rattle.tv_formats.specs.Footer.{footer}
use Rattle.tv_framing.proofs.laws.seals_what_is_written.Goals as goal

pub returns : goal.returns
returns g c keeps =
    let view = g.W.TerminatingWrite.view in
    let bytes = c.args.bytes.now in
    let end : List ℕ = footer (g.C.Checksum.checksum bytes) in
    let before : List ℕ = (view c.args.writer).taken in
    let sealed : (view c.terminate.new.self.writer).taken ≡ (view c.write_all.new.self.writer).taken ++ end =
    c.in_ok-terminate.ensures.footer.kept keeps bytes (c.in_ok-write_all.ensures.sums.ok [] c.new-proxy.ensures.sum) in
    let taken : (view c.write_all.new.self.writer).taken ≡ before ++ bytes =
    c.in_ok-write_all.ensures.below.ok ∙ ap (λ w. (view w).taken ++ bytes) c.new-proxy.ensures.writer in
    sealed ∙ ap (λ (t : List ℕ). t ++ end) taken ∙ append_assoc before bytes end
