-- Entries under their numbers.
use Rattle.std.specs.Prelude.{ℕ, List, map, if◌then◌else◌}
use Rattle.tv_base.specs.declared.inventory.Entry.{Entry}
use Rattle.tv_base.specs.Entries.{is_full, one_more}

-- entries, each under its number
abbrev pub keyed : {T : Type 0} → List (Entry T) → List (ℕ × Entry T)
keyed es = map (λ e. (e.number, e)) es

-- one more share of an entry, where that can be counted
abbrev pub counted : {T : Type 0} → Entry T → Entry T
counted e = if is_full e then e else one_more e
