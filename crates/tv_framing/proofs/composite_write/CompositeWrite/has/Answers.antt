use Rattle.std.proofs.Common.{◌∙◌, ap, sym}
use Rattle.std.specs.List.{list_any}
use Rattle.tv_framing.specs.Composite.{is_at, has_address}
use Rattle.tv_framing.specs.Composing.{the_last}
use Rattle.tv_framing.specs.Starts.{start_addresses}
use Rattle.tv_framing.proofs.Parts.{addresses_of}
use Rattle.tv_framing.proofs.composite_write.CompositeWrite.has.Goals as goal

pub returns : goal.returns
returns g c = record {
  has = c.has_start.ensures
      ∙ ap (λ l. list_any (is_at c.args.addr.now) l) (ap start_addresses c.as_slice.ensures.value ∙ sym (addresses_of (the_last c.self.inside.written (g.W.TerminatingWrite.view c.self.inside.writer).taken) c.self.inside.starts.items))
      ∙ ap (λ v. has_address c.args.addr.now v.parts) c.self.view_is;
}
