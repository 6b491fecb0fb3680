use Rattle.std.proofs.Common.{List, ℕ, Some, filter, length, map, string_bytes, refl, sym, ap, ◌∙◌}
use Rattle.std.specs.Prelude.{is_some}
use Rattle.std.specs.List.{list_all}
use Rattle.tv_formats.specs.Names.{is_plain}
use Rattle.tv_managed.specs.Names.{ManagedNames}
use Rattle.tv_metas.specs.Metas.{commit_of, settings_of}
use Rattle.tv_replay.proofs.StandingIndexes.{stands}
use Rattle.tv_replay.proofs.summary.look_into.Goals as goal

pub returns : goal.returns
returns g c t settings schema s managed holds =
    let D = g.D.Directory in
    let asked = c.in_ok-text.ensures in
    let meta = c.in_ok-meta.meta in
    let now = (D.view c.atomic_read.new.self.0).reads in
    let names = ap (map string_bytes) c.as_slice-2.ensures.value ∙ c.in_ok-names.ensures.names ∙ ap (λ (kept : ManagedNames). kept.managed) asked.frame.names in
    let spelled = c.in_ok-meta.ensures.spelled in
    stands settings (settings_of meta) schema c.as_slice.result.now (commit_of meta) spelled.0 (D.view c.args.directory.now.0).reads now c.args.directory.now.1.managed meta.opstamp c.in_ok-files.files s
    holds managed (asked.bytes t ∙ ap Some (sym c.as_slice.ensures.value)) spelled.1 refl (asked.frame.below.content t)
    (sym (ap (λ (kept : ManagedNames). list_all is_plain kept.managed) asked.frame.names) ∙ c.in_ok-names.ensures.plain)
    (c.in_ok-files.ensures t ∙ ap (λ (l : List (List ℕ)). length (filter (λ name. is_some (now name)) l)) names)
