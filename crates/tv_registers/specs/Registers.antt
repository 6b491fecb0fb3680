-- The segments of a writer, by their ids.
use Rattle.std.specs.Prelude.{ℕ, Bool, not, List, [], ◌∷◌, Option, Some, None, is_some, nat_lt, filter, filter_map, map}
use Rattle.std.specs.BTreeMap.{insert_entry}
use Rattle.std.specs.List.{list_all}
use Rattle.tv_base.specs.Entries.{released}
use Rattle.tv_formats.specs.Names.{at, byte_cmp, has, is}
use Rattle.tv_formats.specs.Segments.{num_docs}
use Rattle.tv_metas.specs.Tracked.{KeptMetas, Share}
use Rattle.tv_registers.specs.declared.delete_cursor.DeleteCursor.{DeleteCursor}
use Rattle.tv_registers.specs.Sharing.{releases}

-- what a writer knows of a segment: a share of it, which deletes are applied to it, and which of its
-- documents are alive, where that is known
pub record EntryState : Type 0 where
  pub meta : Share
  pub cursor : DeleteCursor
  pub alive : Option (List Bool)

-- segments by their ids, in the order of the ids
abbrev pub Register : Type 0
Register = List (List ℕ × EntryState)

-- the id of a segment
abbrev pub id_of : EntryState → List ℕ
id_of entry = entry.meta.1.0

-- the number of the share of a segment
abbrev pub ticket_of : EntryState → ℕ
ticket_of entry = entry.meta.0

-- a segment of which it isn't known which documents are alive
abbrev pub entry_of : DeleteCursor → Share → EntryState
entry_of cursor meta = record { meta = meta; cursor = cursor; alive = None }

-- the segments of a register, in the order of their ids
abbrev pub entries_in : Register → List EntryState
entries_in register = map (λ e. e.1) register

-- the shares of the segments of a register, in the order of their ids
abbrev pub metas_in : Register → List Share
metas_in register = map (λ e. e.1.meta) register

-- the numbers of the shares of a register, in the order of the ids
abbrev pub tickets_in : Register → List ℕ
tickets_in register = map (λ e. ticket_of e.1) register

-- whether a register has a segment of each of these ids
abbrev pub has_all : Register → List (List ℕ) → Bool
has_all register ids = list_all (λ id. is_some (at register id)) ids

-- the segments of these ids, in the order of these, as far as they are there
abbrev pub entries_at : Register → List (List ℕ) → List EntryState
entries_at register ids = filter_map (λ id. at register id) ids

-- the segments of a register whose ids aren't among these
abbrev pub outside : List (List ℕ) → Register → Register
outside ids register = filter (λ e. not (has ids e.0)) register

-- whether a segment has living documents
abbrev pub is_living : EntryState → Bool
is_living entry = nat_lt 0 (num_docs entry.meta.1.1)

-- the segments of a register that have living documents
abbrev pub living_in : Register → Register
living_in register = filter (λ e. is_living e.1) register

-- the segments of a register that have none
abbrev pub empty_in : Register → Register
empty_in register = filter (λ e. not (is_living e.1)) register

-- a register in which a segment stands under its id, where another one may have stood
abbrev pub put : EntryState → Register → Register
put entry register = insert_entry byte_cmp register (id_of entry) entry

-- a register in which segments were put, one after the other
abbrev pub put_each : List EntryState → Register → Register
put_each [] register = register
put_each (entry ∷ entries) register = put_each entries (put entry register)

-- a register with the inventory that counts its shares
abbrev pub Counted : Type 0
Counted = Register × KeptMetas

-- the share of a segment is given back, if there is one
abbrev pub given_back : Option EntryState → KeptMetas → KeptMetas
given_back None kept = kept
given_back (Some entry) kept = released (ticket_of entry) kept

-- A segment is put in. One that had its id goes out, and its share is given back.
abbrev pub with_entry : EntryState → Counted → Counted
with_entry entry c = (put entry c.0, given_back (at c.0 (id_of entry)) c.1)

-- segments are put in, one after the other
abbrev pub with_each : List EntryState → Counted → Counted
with_each [] c = c
with_each (entry ∷ entries) c = with_each entries (with_entry entry c)

-- The segment of an id goes out, if there is one, and its share is given back.
abbrev pub without_id : List ℕ → Counted → Counted
without_id id c = (filter (λ e. not (is id e.0)) c.0, given_back (at c.0 id) c.1)

-- the segments of these ids go out, one after the other
abbrev pub without_each : List (List ℕ) → Counted → Counted
without_each [] c = c
without_each (id ∷ ids) c = without_each ids (without_id id c)

-- All segments go out, and their shares are given back.
abbrev pub emptied : Counted → Counted
emptied c = ([], releases (tickets_in c.0) c.1)

-- The segments of these ids go out, and one segment comes in, if there is one.
abbrev pub replaced : List (List ℕ) → Option EntryState → Counted → Counted
replaced ids None c = without_each ids c
replaced ids (Some entry) c = without_each (filter (λ id. not (is (id_of entry) id)) ids) (with_entry entry c)
