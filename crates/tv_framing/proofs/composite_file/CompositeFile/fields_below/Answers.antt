use Rattle.std.proofs.Common.{◌∙◌, ap, sym, nat_lt}
use Rattle.std.specs.List.{list_all}
use Rattle.tv_framing.specs.Composite.{fields_below}
use Rattle.tv_framing.specs.Starts.{start_addresses}
use Rattle.tv_framing.proofs.Parts.{addresses_of}
use Rattle.tv_framing.proofs.composite_file.CompositeFile.fields_below.Goals as goal

pub returns : goal.returns
returns c = record {
  below = c.are_below.ensures
      ∙ ap (λ l. list_all (λ addr. nat_lt addr.field c.args.n) l) (ap start_addresses c.as_slice.ensures.value ∙ sym (addresses_of c.self.inside.bytes c.self.inside.starts.items))
      ∙ ap (fields_below c.args.n) c.self.view_is;
}
