-- What one more recorded call makes of what a crash may leave.
use Rattle.std.proofs.Common.{IsSome, ◌≡◌, ◌≢◌, ◌≤◌, ◌<◌, ◌+◌, ℕ, Bool, true, false, List, [], ◌∷◌, ◌++◌, Option, None, Some, inl, inr, refl, sym, ap, subst, ◌∙◌, drop, take, length, true≢false, arith, nat_eq, if◌then◌else◌, ⊎_elim, append_assoc}
use Rattle.std.proofs.Math.Path.{fun_ext}
use Rattle.std.proofs.lemmas.Bool.{eqb-true}
use Rattle.std.proofs.lemmas.Grind.{flat_map-append}
use Rattle.std.proofs.lemmas.List.{take-append-le, drop-append-le, length-append, append-nil}
use Rattle.std.proofs.lemmas.List.Elements.{Contains-append_left, Contains-push, Contains-push_cases}
use Rattle.std.proofs.lemmas.List.Sums.{fold-append}
use Rattle.std.specs.List.{Contains, flat_map}
use Rattle.tv_formats.specs.Disk.{Disk, DiskState, Absent, IsThere, Possible, possible_now, Within, SamePossible, MayAdd, IsSettled, Elapses}
use Rattle.tv_formats.specs.Names.{is, at}
use Rattle.tv_formats.proofs.DiskLaws.{same}
use Rattle.tv_formats.proofs.Entries.{is_itself, is_text, isnt_text}
use Rattle.tv_directory.specs.declared.bench_record.Call.{Call}
use Rattle.tv_directory.specs.declared.bench_record.Call.TheVariants.{Replaced, Refused, Told, Synced}
use Rattle.tv_device.specs.declared.files.Content.{Content}
use Rattle.tv_device.specs.declared.files.Content.TheVariants as content
use Rattle.tv_device.specs.declared.files.StoredFile.{StoredFile}
use Rattle.std.specs.Prelude.{option_map}
use Rattle.tv_device.specs.Images.{KeepsDisk, SetsState}
use Rattle.tv_directory.specs.Record.{AddsAtMost, RecordState, RecordedRefused, has_line_room, and_since, disk_by, found_by, is_settled, since_sync, settled_by, states_at, stood_before}
use Rattle.tv_directory.specs.RecordLaws.{stands_now, states_now}
use Rattle.tv_device.specs.StoredFiles.{StandsAs, States, bytes_of, is_made, is_number, reads_of, disk_state_of, states_of}

-- A call was recorded that gave this name this state.
pub record Recorded (old new : Disk) (name : List ℕ) (state : DiskState) : Type 0 where
  pub sets : SetsState old new name state
  pub adds : AddsAtMost old new name state

-- whether a name is this one
by_name : {P : Type 0} (name n : List ℕ) → (is name n ≡ true → name ≡ n → P) → (is name n ≡ false → n ≢ name → P) → P
by_name {P} name n same other =
    elim (is name n) as (λ b. is name n ≡ b → P) [
      | true ↦ λ e. same e (is_text name n e)
      | false ↦ λ e. other e (isnt_text name n e)
    ] refl

-- how a name stood before some calls and one more
stood_then : (calls : List Call) (e : Call) (name : List ℕ) (now : DiskState) → stood_before (calls ++ e ∷ []) name now ≡ stood_before calls name (stood_before (e ∷ []) name now)
stood_then [] e name now = refl
stood_then (Replaced other before ∷ calls) e name now = ap (λ s. if is other name then disk_state_of before else s) (stood_then calls e name now)
stood_then (Refused other before after ∷ calls) e name now = stood_then calls e name now
stood_then (Told ∷ calls) e name now = stood_then calls e name now
stood_then (Synced ∷ calls) e name now = stood_then calls e name now

-- what a crash at an earlier moment may leave stays as it was
past_states : (calls : List Call) (e : Call) (name : List ℕ) (old new : DiskState) (x : ℕ) → x ≤ length calls → stood_before (e ∷ []) name new ≡ old → states_at (calls ++ e ∷ []) x name new ≡ states_at calls x name old
past_states calls e name old new x le found =
    ap (λ (l : List Call). flat_map (found_by name) (since_sync l) ++ stood_before (drop x (calls ++ e ∷ [])) name new ∷ []) (take-append-le x calls (e ∷ []) le)
    ∙ ap (λ (s : DiskState). flat_map (found_by name) (since_sync (take x calls)) ++ s ∷ [])
    (ap (λ (l : List Call). stood_before l name new) (drop-append-le x calls (e ∷ []) le) ∙ stood_then (drop x calls) e name new ∙ ap (λ s. stood_before (drop x calls) name s) found)

-- what a crash now may leave, after one more call
end_states : (calls : List Call) (e : Call) (name : List ℕ) (now : DiskState) → states_at (calls ++ e ∷ []) (length (calls ++ e ∷ [])) name now ≡ flat_map (found_by name) (and_since (since_sync calls) e) ++ now ∷ []
end_states calls e name now =
    states_now (calls ++ e ∷ []) name now ∙ ap (λ (l : List Call). flat_map (found_by name) l ++ now ∷ []) (fold-append and_since [] calls (e ∷ []))

-- the same, where the call isn't a sync
more_states : (calls : List Call) (e : Call) (name : List ℕ) (now : DiskState) → and_since (since_sync calls) e ≡ since_sync calls ++ e ∷ []
    → states_at (calls ++ e ∷ []) (length (calls ++ e ∷ [])) name now ≡ (flat_map (found_by name) (since_sync calls) ++ found_by name e) ++ now ∷ []
more_states calls e name now is_more =
    end_states calls e name now
    ∙ ap (λ (l : List Call). flat_map (found_by name) l ++ now ∷ []) is_more
    ∙ ap (λ (l : List DiskState). l ++ now ∷ []) (flat_map-append (found_by name) (since_sync calls) (e ∷ []) ∙ ap (λ (l : List DiskState). flat_map (found_by name) (since_sync calls) ++ l) (append-nil (found_by name e)))

-- One more call, which found each name as it stood.
module _ (calls : List Call) (e : Call) (old new : States) (found : (n : List ℕ) → stood_before (e ∷ []) n (new n) ≡ old n) where
  longer : length (calls ++ e ∷ []) ≡ length calls + 1
  longer = length-append calls (e ∷ [])

  at_end : (x : ℕ) → length calls < x → x ≤ length (calls ++ e ∷ []) → x ≡ length (calls ++ e ∷ [])
  at_end x after upto = omega (arith, longer)

  pub elapses : Elapses (disk_by calls old) (disk_by (calls ++ e ∷ []) new)
  elapses = record {
    later = omega (arith, longer);
    past = λ x le. record {
      no_more = record { each = λ n s is. subst (λ (l : List DiskState). Contains l s) (past_states calls e n (old n) (new n) x le (found n)) is };
      no_fewer = record { each = λ n s is. subst (λ (l : List DiskState). Contains l s) (sym (past_states calls e n (old n) (new n) x le (found n))) is };
    };
    inside = λ x after upto. inr (subst (λ (y : ℕ). SamePossible (possible_now (disk_by (calls ++ e ∷ []) new)) ((disk_by (calls ++ e ∷ []) new).possible y)) (sym (at_end x after upto)) (same _));
  }

-- A name was given another file.
module _ (calls : List Call) (name : List ℕ) (before : Option Content) (old new : States) (state : DiskState) (was : disk_state_of before ≡ old name) (stands : StandsAs old new name state) where
  abbrev call : Call
  call = Replaced name before

  found : (n : List ℕ) → stood_before (call ∷ []) n (new n) ≡ old n
  found n = by_name name n (λ is_it eq. rw is_it (was ∙ ap old eq)) (λ isnt other. rw isnt (stands.others n other))

  -- the states of this name are those that were, and one more
  this_name : (n : List ℕ) → is name n ≡ true → name ≡ n → states_at (calls ++ call ∷ []) (length (calls ++ call ∷ [])) n (new n) ≡ states_at calls (length calls) n (old n) ++ new n ∷ []
  this_name n is_it eq =
      let b : found_by n call ≡ old n ∷ [] = rw is_it (ap (λ (s : DiskState). s ∷ []) (was ∙ ap old eq)) in
      more_states calls call n (new n) refl
      ∙ ap (λ (l : List DiskState). (flat_map (found_by n) (since_sync calls) ++ l) ++ new n ∷ []) b
      ∙ ap (λ (l : List DiskState). l ++ new n ∷ []) (sym (states_now calls n (old n)))

  other_name : (n : List ℕ) → is name n ≡ false → n ≢ name → states_at (calls ++ call ∷ []) (length (calls ++ call ∷ [])) n (new n) ≡ states_at calls (length calls) n (old n)
  other_name n isnt other =
      let b : found_by n call ≡ [] = rw isnt refl in
      more_states calls call n (new n) refl
      ∙ ap (λ (l : List DiskState). (flat_map (found_by n) (since_sync calls) ++ l) ++ new n ∷ []) b
      ∙ ap (λ (l : List DiskState). l ++ new n ∷ []) (append-nil (flat_map (found_by n) (since_sync calls)))
      ∙ ap (λ (s : DiskState). flat_map (found_by n) (since_sync calls) ++ s ∷ []) (stands.others n other)
      ∙ sym (states_now calls n (old n))

  replaced_one : Recorded (disk_by calls old) (disk_by (calls ++ call ∷ []) new) name state
  replaced_one = record {
    sets = record {
      now = stands.changed;
      others = stands.others;
      possible = record {
        added = subst (λ (s : DiskState). Contains (states_at (calls ++ call ∷ []) (length (calls ++ call ∷ [])) name (new name)) s) stands.changed (stands_now (calls ++ call ∷ []) name (new name));
        kept = record {
          each = λ n s is. by_name name n
              (λ is_it eq. subst (λ (l : List DiskState). Contains l s) (sym (this_name n is_it eq)) (Contains-append_left _ (new n ∷ []) s is))
              (λ isnt other. subst (λ (l : List DiskState). Contains l s) (sym (other_name n isnt other)) is);
        };
      };
    };
    adds = record {
      no_more = record {
        each = λ n s is. by_name name n
            (λ is_it eq. ⊎_elim inl (λ e. inr (sym eq, sym e ∙ ap new (sym eq) ∙ stands.changed))
            (Contains-push_cases _ (new n) s (subst (λ (l : List DiskState). Contains l s) (this_name n is_it eq) is)))
            (λ isnt other. inl (subst (λ (l : List DiskState). Contains l s) (other_name n isnt other) is));
      };
      time = elapses calls call old new found;
    };
  }

  pub replaced : (now : List Call) → now ≡ calls ++ Replaced name before ∷ [] → Recorded (disk_by calls old) (disk_by now new) name state
  replaced now is = subst (λ (l : List Call). Recorded (disk_by calls old) (disk_by l new) name state) (sym is) replaced_one

-- The device refused to give a name another file.
module _ (calls : List Call) (name : List ℕ) (before after : Option Content) (old : States) (was : disk_state_of before ≡ old name) where
  abbrev attempt : Call
  attempt = Refused name before after

  this_too : (n : List ℕ) → is name n ≡ true → name ≡ n → states_at (calls ++ attempt ∷ []) (length (calls ++ attempt ∷ [])) n (old n) ≡ (states_at calls (length calls) n (old n) ++ disk_state_of after ∷ []) ++ old n ∷ []
  this_too n is_it eq =
      let b : found_by n attempt ≡ old n ∷ disk_state_of after ∷ [] = rw is_it (ap (λ (s : DiskState). s ∷ disk_state_of after ∷ []) (was ∙ ap old eq)) in
      more_states calls attempt n (old n) refl
      ∙ ap (λ (l : List DiskState). (flat_map (found_by n) (since_sync calls) ++ l) ++ old n ∷ []) b
      ∙ ap (λ (l : List DiskState). l ++ old n ∷ []) (sym (append_assoc (flat_map (found_by n) (since_sync calls)) (old n ∷ []) (disk_state_of after ∷ [])))
      ∙ ap (λ (l : List DiskState). (l ++ disk_state_of after ∷ []) ++ old n ∷ []) (sym (states_now calls n (old n)))

  others_too : (n : List ℕ) → is name n ≡ false → states_at (calls ++ attempt ∷ []) (length (calls ++ attempt ∷ [])) n (old n) ≡ states_at calls (length calls) n (old n)
  others_too n isnt =
      let b : found_by n attempt ≡ [] = rw isnt refl in
      more_states calls attempt n (old n) refl
      ∙ ap (λ (l : List DiskState). (flat_map (found_by n) (since_sync calls) ++ l) ++ old n ∷ []) b
      ∙ ap (λ (l : List DiskState). l ++ old n ∷ []) (append-nil (flat_map (found_by n) (since_sync calls)))
      ∙ sym (states_now calls n (old n))

  refused_one : RecordedRefused (disk_by calls old) (disk_by (calls ++ attempt ∷ []) old) name (disk_state_of after)
  refused_one = record {
    sets = record {
      now = inr refl;
      others = λ n other. refl;
      possible = record {
        added = subst (λ (l : List DiskState). Contains l (disk_state_of after)) (sym (this_too name (is_itself name) refl))
            (Contains-append_left _ (old name ∷ []) (disk_state_of after) (Contains-push (states_at calls (length calls) name (old name)) (disk_state_of after)));
        kept = record {
          each = λ n s is. by_name name n
              (λ is_it eq. subst (λ (l : List DiskState). Contains l s) (sym (this_too n is_it eq)) (Contains-append_left _ (old n ∷ []) s (Contains-append_left _ (disk_state_of after ∷ []) s is)))
              (λ isnt other. subst (λ (l : List DiskState). Contains l s) (sym (others_too n isnt)) is);
        };
      };
    };
    adds = record {
      no_more = record {
        each = λ n s is. by_name name n
            (λ is_it eq. ⊎_elim
            (λ front. ⊎_elim inl (λ e. inr (sym eq, sym e)) (Contains-push_cases _ (disk_state_of after) s front))
            (λ e. inl (subst (λ (t : DiskState). Contains (states_at calls (length calls) n (old n)) t) e (stands_now calls n (old n))))
            (Contains-push_cases _ (old n) s (subst (λ (l : List DiskState). Contains l s) (this_too n is_it eq) is)))
            (λ isnt other. inl (subst (λ (l : List DiskState). Contains l s) (others_too n isnt) is));
      };
      time = elapses calls attempt old old (λ n. refl);
    };
  }

  pub refused : (now : List Call) → now ≡ calls ++ Refused name before after ∷ [] → RecordedRefused (disk_by calls old) (disk_by now old) name (disk_state_of after)
  refused now is = subst (λ (l : List Call). RecordedRefused (disk_by calls old) (disk_by l old) name (disk_state_of after)) (sym is) refused_one

pub refused_by : (calls now : List Call) (old new : States) (name : List ℕ) (before after : Option Content) → new ≡ old → disk_state_of before ≡ old name → now ≡ calls ++ Refused name before after ∷ [] → RecordedRefused (disk_by calls old) (disk_by now new) name (disk_state_of after)
refused_by calls now old new name before after as_before was is_now = subst (λ (s : States). RecordedRefused (disk_by calls old) (disk_by now s) name (disk_state_of after)) (sym as_before) (refused calls name before after old was now is_now)

-- where nothing was recorded, nothing changed
pub unchanged : (calls : List Call) (old : States) → KeepsDisk (disk_by calls old) (disk_by calls old)
unchanged calls old = record {
  states = record { now = λ n. refl; possible = same _ };
  time = record { later = omega arith; past = λ x le. same _; inside = λ x after upto. absurd (omega (after, upto, arith)) };
}

-- A call was recorded that gave a name another file, in a directory that hadn't changed before.
pub replaced_by : (calls now : List Call) (name : List ℕ) (before : Option Content) (old mid new : States) (state : DiskState) → mid ≡ old → disk_state_of before ≡ old name → StandsAs mid new name state → now ≡ calls ++ Replaced name before ∷ []
    → Recorded (disk_by calls old) (disk_by now new) name state
replaced_by calls now name before old mid new state as_before was stands is_now =
    replaced calls name before old new state was (subst (λ (s : States). StandsAs s new name state) as_before stands) now is_now

-- what is possible is no more than that
pub may_add : (old new : Possible) (name : List ℕ) (state : DiskState) → Within old new → MayAdd old new name state
may_add old new name state within = record { each = λ n s is. inl (within.each n s is) }

-- The calls that were recorded are as they were, and so is how each name stands.
pub kept : (calls now : List Call) (old new : States) → now ≡ calls → ((n : List ℕ) → new n ≡ old n) → KeepsDisk (disk_by calls old) (disk_by now new)
kept calls now old new same_calls stands = subst (λ (l : List Call). KeepsDisk (disk_by calls old) (disk_by l new)) (sym same_calls) (subst (λ (s : States). KeepsDisk (disk_by calls old) (disk_by calls s)) (sym (fun_ext stands)) (unchanged calls old))

no_calls : (l : List Call) → nat_eq (length l) 0 ≡ true → l ≡ []
no_calls [] e = refl
no_calls (c ∷ l) e = absurd (omega (arith, eqb-true (length (c ∷ l)) 0 e))

none : {X : Type 0} (x : X) → Contains [] x → ⊥
none x (k, le, at) = omega (arith, le)

-- where nothing was recorded since the last sync, each name has one possible state
pub settled : (calls : List Call) (old : States) → since_sync calls ≡ [] → IsSettled (disk_by calls old)
settled calls old is = record {
  each = λ n s has. ⊎_elim (λ e. absurd (none s e)) (λ (e : old n ≡ s). sym e)
      (Contains-push_cases [] (old n) s (subst (λ (l : List DiskState). Contains l s) (states_now calls n (old n) ∙ ap (λ (l : List Call). flat_map (found_by n) l ++ old n ∷ []) is) has));
}

-- A sync, which is recorded where there is something to settle.
pub record Syncs (old new : Disk) : Type 0 where
  pub now : (n : List ℕ) → new.now n ≡ old.now n
  pub settled : IsSettled new
  pub no_more : Within (possible_now old) (possible_now new)
  pub time : Elapses old new

after_sync : (calls : List Call) → since_sync (calls ++ Synced ∷ []) ≡ []
after_sync calls = fold-append and_since [] calls (Synced ∷ [])

sync_by : (calls : List Call) (old : States) (b : Bool) → is_settled calls ≡ b → Syncs (disk_by calls old) (disk_by (if b then calls else calls ++ Synced ∷ []) old)
sync_by calls old true e = let same_disk = unchanged calls old in record {
  now = λ n. refl;
  settled = settled calls old (no_calls (since_sync calls) e);
  no_more = same_disk.states.possible.no_more;
  time = same_disk.time;
}
sync_by calls old false e = let one = settled (calls ++ Synced ∷ []) old (after_sync calls) in record {
  now = λ n. refl;
  settled = one;
  no_more = record { each = λ n s is. subst (λ (t : DiskState). Contains (states_at calls (length calls) n (old n)) t) (sym (one.each n s is)) (stands_now calls n (old n)) };
  time = elapses calls Synced old old (λ n. refl);
}

pub synced : (calls now : List Call) (old : States) → now ≡ settled_by calls → Syncs (disk_by calls old) (disk_by now old)
synced calls now old is = subst (λ (l : List Call). Syncs (disk_by calls old) (disk_by l old)) (sym is) (sync_by calls old (is_settled calls) refl)

-- A line was told.
module _ (calls : List Call) (old : States) where
  -- a line changes no file
  told_states : (n : List ℕ) → states_at (calls ++ Told ∷ []) (length (calls ++ Told ∷ [])) n (old n) ≡ states_at calls (length calls) n (old n)
  told_states n =
      more_states calls Told n (old n) refl
      ∙ ap (λ (l : List DiskState). l ++ old n ∷ []) (append-nil (flat_map (found_by n) (since_sync calls)))
      ∙ sym (states_now calls n (old n))

  pub told : (now : List Call) → now ≡ calls ++ Told ∷ [] → KeepsDisk (disk_by calls old) (disk_by now old)
  told now is = subst (λ (l : List Call). KeepsDisk (disk_by calls old) (disk_by l old)) (sym is) (record {
    states = record {
      now = λ n. refl;
      possible = record {
        no_more = record { each = λ n s has. subst (λ (l : List DiskState). Contains l s) (told_states n) has };
        no_fewer = record { each = λ n s has. subst (λ (l : List DiskState). Contains l s) (sym (told_states n)) has };
      };
    };
    time = elapses calls Told old old (λ n. refl);
  })

room_by : (b c : Bool) (prepared : ℕ) → (b ≡ true → c ≡ true) → (if b then prepared else 0) ≤ (if c then prepared else 0)
room_by false c prepared goes_on = omega arith
room_by true false prepared goes_on = absurd (true≢false (sym (goes_on refl)))
room_by true true prepared goes_on = omega arith

-- the room for a line doesn't shrink
pub room_kept : (old new : RecordState) (prepared : ℕ) → (has_line_room old ≡ true → has_line_room new ≡ true) → (if has_line_room old then prepared else 0) ≤ (if has_line_room new then prepared else 0)
room_kept old new prepared goes_on = room_by (has_line_room old) (has_line_room new) prepared goes_on

-- the same, of a directory that hadn't changed before
pub kept_by : (calls now : List Call) (old mid new : States) → mid ≡ old → now ≡ calls → ((n : List ℕ) → new n ≡ mid n) → KeepsDisk (disk_by calls old) (disk_by now new)
kept_by calls now old mid new as_before same_calls stands = kept calls now old new same_calls (λ n. stands n ∙ ap (λ (s : States). s n) as_before)

content_there : (content : Content) → IsThere (disk_state_of (Some content))
content_there (content.Unsealed bytes) = tt
content_there (content.Sealed bytes) = tt

-- a file that a writer made is there
file_there : (number : ℕ) (file : Option StoredFile) → is_number number (option_map (λ file. file.number) file) ≡ true → IsThere (disk_state_of (option_map (λ file. file.content) file))
file_there number None e = absurd (true≢false (sym e))
file_there number (Some file) e = content_there file.content

pub made_there : (files : List (List ℕ × StoredFile)) (name : List ℕ) (number : ℕ) → is_made files name number ≡ true → IsThere (states_of files name)
made_there files name number is_it = file_there number (at files name) is_it

-- so is one that its name reads, and a name that reads nothing has none
file_read : (file : Option StoredFile) → IsSome (option_map (λ file. bytes_of file.content) file)
    → IsThere (disk_state_of (option_map (λ file. file.content) file))
file_read None read = absurd (true≢false (sym read))
file_read (Some file) read = content_there file.content

pub read_there : (files : List (List ℕ × StoredFile)) (name : List ℕ) → IsSome (reads_of files name)
    → IsThere (states_of files name)
read_there files name read = file_read (at files name) read

file_unread : (file : Option StoredFile) → option_map (λ file. bytes_of file.content) file ≡ None
    → disk_state_of (option_map (λ file. file.content) file) ≡ Absent
file_unread None none = refl
file_unread (Some file) none = absurd cc

pub unread_absent : (files : List (List ℕ × StoredFile)) (name : List ℕ) → reads_of files name ≡ None
    → states_of files name ≡ Absent
unread_absent files name none = file_unread (at files name) none
