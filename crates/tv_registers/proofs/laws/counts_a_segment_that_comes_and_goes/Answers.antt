use Rattle.std.proofs.Common.{◌≡◌, Option, Some, ap, ◌∙◌}
use Rattle.tv_base.specs.Entries.{released}
use Rattle.tv_formats.specs.Names.{at}
use Rattle.tv_registers.specs.Registers.{Counted, EntryState, given_back, id_of, ticket_of}
use Rattle.tv_registers.proofs.Looked.{put_there}
use Rattle.tv_registers.proofs.laws.counts_a_segment_that_comes_and_goes.Goals as goal

pub returns : goal.returns
returns c none =
    let entry = c.args.entry in
    let kept = c.args.inventory.now in
    let with_it = c.add_segment_entry.new.self in
    let between = c.add_segment_entry.new.inventory in
    let put = c.in_ok-add_segment_entry.ensures.ok in
    let there : at with_it (id_of entry) ≡ Some entry = ap (λ (k : Counted). at k.0 (id_of entry)) put ∙ put_there entry c.args.register.now in
    let same : between ≡ kept = ap (λ (k : Counted). k.1) put ∙ ap (λ (o : Option EntryState). given_back o kept) none in
    ap (λ (k : Counted). k.1) c.remove_segment.ensures ∙ ap (λ id. given_back (at with_it id) between) c.segment_id-id.ensures
    ∙ ap (λ (o : Option EntryState). given_back o between) there ∙ ap (released (ticket_of entry)) same
