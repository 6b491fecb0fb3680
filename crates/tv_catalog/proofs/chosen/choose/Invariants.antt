use Rattle.std.proofs.Common.{◌≡◌, [], None, take}
use Rattle.std.specs.Prelude.{find, is_none}
use Rattle.tv_formats.specs.Names.{at}
use Rattle.tv_metas.specs.TrackedMetas.{put_all}
use Rattle.tv_catalog.specs.Choosing.{is_within}
use Rattle.tv_catalog.proofs.ChosenSegments.{named_passing}
use Rattle.tv_catalog.proofs.chosen.choose.Given as goal

abbrev pub invariant-loop-id : goal.invariant-loop-id
invariant-loop-id l = record {
  chosen : put_all [] l.registers ≡ named_passing is_within (take l.id-index l.ids) l.live.entries;
  known : find (λ id. is_none (at l.live.entries id)) (take l.id-index l.ids) ≡ None;
}
