use Rattle.std.proofs.Common.{rules, ◌∙◌, Some, None, refl, sym}
use Rattle.std.proofs.lemmas.Map.Steps.{set_value_same}
use Rattle.std.specs.BTreeMap.{is_at}
use Rattle.std.specs.Ordering.{nat_cmp}
use Rattle.tv_base.specs.Entries.{one_more}
use Rattle.tv_base.proofs.KeyedLaws.{changed, looked, unchanged}
use Rattle.tv_base.proofs.inventory.count_more.Goals as goal

pub returns-in_default-clause-ok : goal.returns-in_default-clause-ok
returns-in_default-clause-ok g c =
    unchanged one_more (λ e. refl) c.args.number c.args.entries.now.entries _ c.requires c.in_default.ensures.value (search rules)

pub returns-in_default-clause-full : goal.returns-in_default-clause-full
returns-in_default-clause-full g c =
    rw (looked c.args.number c.args.entries.now.entries None c.requires c.in_default.ensures.value) (search rules)

pub returns-then-entry-clause-err : goal.returns-then-entry-clause-err
returns-then-entry-clause-err g c =
    (c.get_mut.follows.holds c.in-Some.entry.now).0
    ∙ set_value_same (is_at (nat_cmp c.args.number)) c.args.entries.now.entries c.in-Some.entry.now (sym c.in-Some.ensures.value)

pub returns-then-entry-clause-full : goal.returns-then-entry-clause-full
returns-then-entry-clause-full g c =
    rw (looked c.args.number c.args.entries.now.entries (Some c.in-Some.entry.now) c.requires c.in-Some.ensures.value) (search rules)

pub returns-clause-ok : goal.returns-clause-ok
returns-clause-ok g c =
    changed one_more (λ e. refl) c.args.number c.args.entries.now.entries _ c.requires c.in-Some.entry.now c.in-Some.ensures.value
    (c.get_mut.follows.holds (one_more c.in-Some.entry.now)).0

pub returns-clause-full : goal.returns-clause-full
returns-clause-full g c =
    rw (looked c.args.number c.args.entries.now.entries (Some c.in-Some.entry.now) c.requires c.in-Some.ensures.value) (search rules)
