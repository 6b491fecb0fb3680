-- Why no index was found, as a cause of an opening, and what that leaves.
use Rattle.std.proofs.Common.{◌≡◌, ◌⊎◌, inl, inr, ℕ, List, Option, Some, None, Err, true≢false, refl, sym, subst, ◌∙◌}
use Rattle.std.specs.Prelude.{IsSome}
use Rattle.tv_base.specs.declared.error.TantivyError.{TantivyError}
use Rattle.tv_base.specs.declared.error.TantivyError.TheVariants as errors
use Rattle.tv_device.specs.Calls.{Frees}
use Rattle.tv_device.specs.Images.{KeepsDisk}
use Rattle.tv_device.specs.View.{OnlyReads}
use Rattle.tv_device.specs.ViewLaws.{deletes_then, kept_itself}
use Rattle.tv_device.specs.Watch.{MayNote, WatchState}
use Rattle.tv_device.specs.declared.directory.Directory.{Ghosts}
use Rattle.tv_managed.specs.Names.{ManagedNames}
use Rattle.tv_formats.specs.Files.{Reads, Rose, Same}
use Rattle.tv_formats.specs.Meaning.{MeansNothing, MeansOther}
use Rattle.tv_formats.specs.Names.{meta_name}
use Rattle.tv_formats.specs.Schemas.{IsSchema}
use Rattle.tv_index.specs.CrashLaws.{looks_kept, looks_make, looks_none, looks_then, makes_behind, makes_then}
use Rattle.tv_index.specs.Crashes.{LacksMeta, MayMake, OnlyLooks, TracksFrom}
use Rattle.tv_index.specs.Opening.{IsRefusedBytes, LeavesFound, LeavesUnopened, HasList, NotOpened, OfBytes, OpenCause, OpensIndex, first_text}
use Rattle.tv_index.specs.Saving.{IsUnrefused}
use Rattle.tv_metas.specs.Schemas.{SchemaCause}
use Rattle.tv_metas.specs.declared.index_meta.UntrackedIndexMeta.{UntrackedIndexMeta}
use Rattle.tv_store.specs.Making.{FindsNone, IsRefusedFirst, LeavesRefused, WritesNone}
use Rattle.tv_store.specs.Opening.{OpensOrRefuses}
use Rattle.tv_store.specs.OpeningCauses.{CallFacts, OpeningCause, opening_facts}
use Rattle.tv_store.specs.StoreCauses.{writer_lock_name}
use Rattle.tv_store.specs.UnderLock.{IsUnderLock}
use Rattle.tv_store.proofs.Holding.{dotted_others}
use Rattle.tv_store.proofs.Opened.{from_lock, lacked}
use Rattle.tv_store.proofs.StoreLocks.{freed_after}
use Rattle.tv_store.proofs.Listings.{listing_kept}

-- ---- causes

-- behind the schema and the lock only bytes are refused
first_bytes : (tells : Type 0) (schema : List ℕ) (reads : Reads) (refused quiet : Type 0) (error : TantivyError) → IsRefusedFirst error → OpenCause tells schema reads refused quiet error → IsRefusedBytes error
first_bytes tells schema reads refused quiet (errors.InvalidArgument text) first h = absurd h
first_bytes tells schema reads refused quiet (errors.DataCorruption why) first h = tt
first_bytes tells schema reads refused quiet (errors.SchemaError text) first h = tt
first_bytes tells schema reads refused quiet (errors.LockFailure why text) first h = absurd h
first_bytes tells schema reads refused quiet other first h = absurd first

-- that the device refused a call is another error
bytes_unrefused : (error : TantivyError) → IsRefusedBytes error → IsUnrefused error
bytes_unrefused (errors.IoError fault) bytes = bytes
bytes_unrefused other bytes = tt

-- a list that stands is one still where each name reads the same
has_list : {now before : Reads} → Same before now → HasList now → HasList before
has_list {now} {before} same (names, lists) = (names, listing_kept now before names (λ n is. sym (same n)) lists)

-- a directory that reads the same isn't opened for the same cause
pub open_cause_at : (tells : Type 0) (schema : List ℕ) (now before : Reads) (refused quiet more all : Type 0) (error : TantivyError) → (tells → Same before now) → (refused → more) → (quiet → all)
    → OpenCause tells schema now refused quiet error → OpenCause tells schema before more all error
open_cause_at tells schema now before refused quiet more all (errors.DataCorruption why) same r q (inl h) = inl (q h.0, h.1, λ t names lists. h.2 t names (listing_kept before now names (λ n is. same t n) lists))
open_cause_at tells schema now before refused quiet more all (errors.DataCorruption why) same r q (inr h) =
    inr ((λ t. has_list (same t) (h.0 t)), (q h.1.0, h.1.1, λ t. subst (OfBytes (MeansNothing (Some schema))) (same t meta_name) (h.1.2 t)))
open_cause_at tells schema now before refused quiet more all (errors.SchemaError text) same r q h =
    ((λ t. has_list (same t) (h.0 t)), (q h.1.0, h.1.1, λ t. subst (OfBytes (MeansOther schema)) (same t meta_name) (h.1.2 t)))
open_cause_at tells schema now before refused quiet more all (errors.IoError fault) same r q h = (h.0, r h.1)
open_cause_at tells schema now before refused quiet more all errors.Memory same r q h = q h
open_cause_at tells schema now before refused quiet more all other same r q h = absurd h

pub found_cause : (facts : CallFacts) (schema text : List ℕ) (reads : Reads) (error : TantivyError) → IsSchema schema text → OpenCause facts.tells text reads facts.refused_behind facts.quiet_behind error → OpeningCause facts schema reads error
found_cause facts schema text reads (errors.InvalidArgument why) is h = absurd h
found_cause facts schema text reads (errors.LockFailure why named) is h = absurd h
found_cause facts schema text reads (errors.OpenReadError why) is h = absurd h
found_cause facts schema text reads errors.Memory is h = h
found_cause facts schema text reads other is h = (text, is, h)

-- ---- what is left

same_refused : (old new : Reads) (schema : List ℕ) → Same old new → LeavesRefused old new schema
same_refused old new schema same = record {
  spelled = λ text is. record { stood = λ some. same; others = λ n other list. same n; made = λ none. inl (same meta_name ∙ none) };
  unspelled = λ none. same;
}

unopened_then : (old mid new : Reads) (schema : List ℕ) → LeavesUnopened old mid schema → Same mid new → LeavesUnopened old new schema
unopened_then old mid new schema h same = record {
  stood = λ some n. same n ∙ h.stood some n;
  others = λ n other list. same n ∙ h.others n other list;
  made = λ none. subst (λ (read : Option (List ℕ)). (read ≡ None) ⊎ (read ≡ Some (first_text schema))) (sym (same meta_name)) (h.made none);
}

found_unopened : (old new : Reads) (schema : List ℕ) → LeavesFound old new schema → LeavesUnopened old new schema
found_unopened old new schema h = record { stood = h.stood; others = h.others; made = λ none. inr (h.made none) }

module _ {O W C : Type 0} (g : Ghosts O W C) (outside : O) (schema : List ℕ) where
  -- the directory was only read from
  pub only_read : (now : O) (error : TantivyError) → OnlyReads g.told (g.view outside) (g.view now) → (g.tells_images → OnlyLooks g outside now) → OpeningCause (opening_facts g outside now) schema (g.view outside).reads error
      → OpensOrRefuses g outside schema (Err (record { error = error; directory = now }))
  only_read now error only look cause = record {
    opens = tt;
    leaves = record { leaves = λ t. same_refused (g.view outside).reads (g.view now).reads schema (only.content t); unchanged = λ t none. only.content t };
    tells = record { ok = λ t. tt; err = λ t. inl heard; part = λ t h index. inl heard };
    locks = record { ok = λ t. tt; under = tt; err = only.kept.frame.locks; writes = inl only };
    faults = record { quiet = tt; cause = cause };
    frame = record {
      ok = tt;
      err = record { deletes_none = only.kept.frame.tells_none.deletes_none; dotted = λ t n dot other. only.content t n; watched = inl only.kept.watched };
      stood = λ told. only.kept.watched;
      made = tt;
      unnoted = λ none. only.kept.watched;
    };
    safe = λ t. record { ok = tt; tracks = tt; err = λ text is. looks_make g (first_text text) (LacksMeta g outside) (look t); looks = λ none. look t };
  } where
    heard : (g.view now).heard ≡ (g.view outside).heard
    heard = only.kept.frame.tells_none.heard

  -- the bytes spell no schema, or memory was wanted for it
  pub unspelled : (error : TantivyError) → SchemaCause schema error → OpensOrRefuses g outside schema (Err (record { error = error; directory = outside }))
  unspelled error h = only_read outside error (record { kept = kept_itself g.told (g.view outside); content = λ t n. refl }) (λ t. looks_none g outside) (cause error h) where
    cause : (e : TantivyError) → SchemaCause schema e → OpeningCause (opening_facts g outside outside) schema (g.view outside).reads e
    cause (errors.InvalidArgument text) k = (refl, k.1, k.0)
    cause errors.Memory k = inl refl
    cause other k = absurd k

  -- none was found under the lock, which was given back
  module _ (locked found now : O) (text : List ℕ) (error : TantivyError) (is : IsSchema schema text) (under : IsUnderLock g outside locked) (none : FindsNone g locked text found error)
      (frees : Frees g.told writer_lock_name (g.view found) (g.view now)) (keeps : g.tells_images → KeepsDisk (g.disk found) (g.disk now)) where
    reads_back : g.told.content → Same (g.view found).reads (g.view now).reads
    reads_back = frees.frame.content

    -- a refusal that writes nothing is one of bytes
    of_bytes : WritesNone g outside error → IsRefusedBytes error
    of_bytes (inl first) = first_bytes g.told.content text (g.view locked).reads _ _ error first none.cause
    of_bytes (inr held) = absurd (true≢false (sym held.1 ∙ (under.took held.0).was_free))

    heard : (g.view now).heard ≡ (g.view outside).heard
    heard = frees.frame.tells_none.heard ∙ none.frame.notes.frame.tells_none.heard ∙ under.only.tells_none.heard

    noted_back : MayNote meta_name (g.view outside).watched (g.view now).watched
    noted_back =
        subst (λ (w : WatchState). MayNote meta_name w (g.view now).watched) under.only.watched
        (subst (λ (w : WatchState). MayNote meta_name (g.view locked).watched w) (sym frees.frame.watched) none.frame.notes.watched)

    -- why, as it is counted from before the lock on
    counted : OpenCause g.told.content text (g.view locked).reads (Rose (g.view outside).faults (g.view now).faults) ((g.view now).faults ≡ (g.view outside).faults) error
    counted =
        subst (λ (n : ℕ). OpenCause g.told.content text (g.view locked).reads (Rose n (g.view now).faults) ((g.view now).faults ≡ n) error) under.quiet
        (subst (λ (n : ℕ). OpenCause g.told.content text (g.view locked).reads (Rose (g.view locked).faults n) (n ≡ (g.view locked).faults) error) (sym frees.faults) none.cause)

    pub given_back : OpensOrRefuses g outside schema (Err (record { error = error; directory = now }))
    given_back = record {
      opens = tt;
      leaves = record {
        leaves = λ t. record {
          spelled = λ own same.
              subst (LeavesUnopened (g.view outside).reads (g.view now).reads) (is.text_is ∙ sym same.text_is)
              (from_lock g under (λ reads. LeavesUnopened reads (g.view now).reads text) t (unopened_then (g.view locked).reads (g.view found).reads (g.view now).reads text (none.leaves t) (reads_back t)));
          unspelled = λ never. absurd (never text is);
        };
        unchanged = λ t first n. reads_back t n ∙ none.unchanged t (of_bytes first) n ∙ under.only.content t n;
      };
      tells = record { ok = λ t. tt; err = λ t. inl heard; part = λ t h index. inl heard };
      locks = record {
        ok = λ t. tt;
        under = tt;
        err = λ t. freed_after (g.view outside).locks (g.view locked).locks (g.view found).locks (g.view now).locks writer_lock_name (under.took t) (none.frame.notes.frame.locks t) (frees.freed t);
        writes = inr (locked, under);
      };
      faults = record {
        quiet = tt;
        cause =
            found_cause (opening_facts g outside now) schema text (g.view outside).reads error is
            (open_cause_at g.told.content text (g.view locked).reads (g.view outside).reads _ _ _ _ error under.only.content inl inl counted);
      };
      frame = record {
        ok = tt;
        err = record {
          deletes_none = deletes_then under.only.tells_none.deletes_none (deletes_then none.frame.notes.frame.tells_none.deletes_none frees.frame.tells_none.deletes_none);
          dotted = λ t n dot other. reads_back t n ∙ dotted_others (g.view locked).reads (g.view found).reads meta_name refl (none.leaves t).others n dot other ∙ under.only.content t n;
          watched = noted_back;
        };
        stood = λ tells. frees.frame.watched ∙ none.frame.unless (tells.0, subst IsSome (sym (under.only.content tells.0 meta_name)) tells.1) ∙ under.only.watched;
        made = tt;
        unnoted = λ first. frees.frame.watched ∙ none.unnoted (of_bytes first) ∙ under.only.watched;
      };
      safe = λ t. record {
        ok = tt;
        tracks = tt;
        err = λ own same.
            subst (λ (x : List ℕ). MayMake g (LacksMeta g outside) (first_text x) outside now) (is.text_is ∙ sym same.text_is)
            (makes_behind g (first_text text) (lacked g under) (under.looks t) (makes_then g (first_text text) (LacksMeta g locked) (none.makes t) (looks_kept g (keeps t))));
        looks = λ first. looks_then g (under.looks t) (looks_then g (none.spares t (of_bytes first)) (looks_kept g (keeps t)));
      };
    }

-- ---- under the lock

module _ {O W C : Type 0} (g : Ghosts O W C) (locked : O) (schema : List ℕ) where
  -- it wasn't opened
  pub finds_none : (now : O) (error : TantivyError) → NotOpened g locked schema now error → (g.tells_images → MayMake g (LacksMeta g locked) (first_text schema) locked now)
      → (g.tells_images → IsRefusedBytes error → OnlyLooks g locked now) → FindsNone g locked schema now error
  finds_none now error n makes spares = record {
    leaves = n.left;
    unchanged = n.unchanged;
    cause = n.cause;
    unnoted = λ bytes. n.frame.unless (inr (bytes_unrefused error bytes));
    frame = record { notes = n.frame.notes; unless = λ stood. n.frame.unless (inl stood) };
    makes = makes;
    spares = spares;
  }

  -- it was, and then memory was wanted
  pub wants_catalog : (opened : O × ManagedNames) (meta : UntrackedIndexMeta) (now : O) → now ≡ opened.0 → OpensIndex g locked schema opened meta
      → (g.tells_images → MayMake g (LacksMeta g locked) (first_text schema) locked opened.0 × TracksFrom g locked opened) → FindsNone g locked schema now errors.Memory
  wants_catalog opened meta now is o safe = subst (λ (d : O). FindsNone g locked schema d errors.Memory) (sym is) (record {
    leaves = λ t. found_unopened (g.view locked).reads (g.view opened.0).reads schema (o.left t);
    unchanged = λ t bytes. absurd bytes;
    cause = o.quiet;
    unnoted = λ bytes. absurd bytes;
    frame = o.frame;
    makes = λ t. (safe t).0;
    spares = λ t bytes. absurd bytes;
  })
