-- What a call that saves `meta.json` does to the managed names and to their list, put together from its calls.
use Rattle.std.proofs.Common.{◌≡◌, ◌⊎◌, inl, inr, ℕ, List, Option, Result, Ok, Err, sym, ap, subst, ◌∙◌, true}
use Rattle.std.specs.Prelude.{IsErr, IsSome, OnErr}
use Rattle.std.proofs.lemmas.Result.{on_err_weaker, on_ok_weaker}
use Rattle.tv_device.specs.declared.directory.Directory.{Ghosts}
use Rattle.tv_managed.specs.Managed.{Covers, ManagesFile, registering}
use Rattle.tv_managed.specs.Names.{ManagedNames}
use Rattle.tv_formats.specs.Listing.{IsOnList, Listing}
use Rattle.tv_formats.specs.Names.{has, meta_name}
use Rattle.tv_index.proofs.Listings.{listing_after}
use Rattle.tv_index.proofs.Options.{no_some}

-- ---- another answer

or_one_more : {A E D W C : Type 0} (g : Ghosts D W C) (old new : D × ManagedNames) (result : Result A E) → ManagesFile g old new meta_name result → (new.1 ≡ old.1) ⊎ (new.1 ≡ registering old.1 meta_name)
or_one_more g old new (Ok a) h = inr h.ok
or_one_more g old new (Err e) h = h.err

module _ {A B E F D W C : Type 0} (g : Ghosts D W C) (old new : D × ManagedNames) where
  -- what was done before an error is no more than what is done at Ok
  pub manages_err : (inner : Result A E) (result : Result B F) → IsErr result → ManagesFile g old new meta_name inner → ManagesFile g old new meta_name result
  manages_err inner (Ok b) failed h = absurd cc
  manages_err inner (Err f) failed h = record {
    ok = tt;
    err = or_one_more g old new inner h;
    saves = record { list = λ t lists. tt; covers = h.saves.covers };
    unsaved = h.unsaved;
    listed = h.listed;
    managed = h.managed;
  }

  -- and what is done at Ok is that
  pub manages_ok : (inner : Result A E) (result : Result B F) → OnErr inner ⊥ → OnErr result ⊥ → ManagesFile g old new meta_name inner → ManagesFile g old new meta_name result
  manages_ok (Err e) result failed ok h = absurd failed
  manages_ok (Ok a) (Err f) ok failed h = absurd failed
  manages_ok (Ok a) (Ok b) ok did h = record {
    ok = h.ok;
    err = tt;
    saves = record { list = h.saves.list; covers = h.saves.covers };
    unsaved = h.unsaved;
    listed = h.listed;
    managed = h.managed;
  }

-- ---- between calls that only read

module _ {D W C : Type 0} (g : Ghosts D W C) (old mid now new : D × ManagedNames)
    (reads_before : g.told.content → (n : List ℕ) → (g.view mid.0).reads n ≡ (g.view old.0).reads n) (names_before : mid.1 ≡ old.1)
    (reads_after : g.told.content → (n : List ℕ) → (g.view new.0).reads n ≡ (g.view now.0).reads n) (names_after : new.1 ≡ now.1) where
  names : now.1 ≡ registering mid.1 meta_name → new.1 ≡ registering old.1 meta_name
  names h = names_after ∙ h ∙ ap (λ (ns : ManagedNames). registering ns meta_name) names_before

  names_or : (now.1 ≡ mid.1) ⊎ (now.1 ≡ registering mid.1 meta_name) → (new.1 ≡ old.1) ⊎ (new.1 ≡ registering old.1 meta_name)
  names_or (inl h) = inl (names_after ∙ h ∙ names_before)
  names_or (inr h) = inr (names h)

  lists_in : g.told.content → Listing (g.view old.0).reads old.1.managed → Listing (g.view mid.0).reads mid.1.managed
  lists_in t h =
      subst (λ (ns : ManagedNames). Listing (g.view mid.0).reads ns.managed) (sym names_before) (listing_after (g.view old.0).reads (g.view mid.0).reads old.1.managed (reads_before t) h)

  lists_out : g.told.content → Listing (g.view now.0).reads now.1.managed → Listing (g.view new.0).reads new.1.managed
  lists_out t h =
      subst (λ (ns : ManagedNames). Listing (g.view new.0).reads ns.managed) (sym names_after) (listing_after (g.view now.0).reads (g.view new.0).reads now.1.managed (reads_after t) h)

  covers_in : (list : List ℕ) → g.told.content → Covers ((g.view old.0).reads list) old.1 → Covers ((g.view mid.0).reads list) mid.1
  covers_in list t h = subst (λ (ns : ManagedNames). Covers ((g.view mid.0).reads list) ns) (sym names_before) (subst (λ (read : Option (List ℕ)). Covers read old.1) (sym (reads_before t list)) h)

  covers_out : (list : List ℕ) → g.told.content → Covers ((g.view now.0).reads list) now.1 → Covers ((g.view new.0).reads list) new.1
  covers_out list t h = subst (λ (ns : ManagedNames). Covers ((g.view new.0).reads list) ns) (sym names_after) (subst (λ (read : Option (List ℕ)). Covers read now.1) (sym (reads_after t list)) h)

  pub manages_between : {A E : Type 0} (inner : Result A E) → ManagesFile g mid now meta_name inner → ManagesFile g old new meta_name inner
  manages_between inner h = record {
    ok = on_ok_weaker inner names h.ok;
    err = on_err_weaker inner names_or h.err;
    saves = record {
      list = λ t lists. on_ok_weaker inner (lists_out t) (h.saves.list t (lists_in t lists));
      covers = λ t covers. covers_out _ t (h.saves.covers t (covers_in _ t covers));
    };
    unsaved = λ t put. reads_after t _ ∙ h.unsaved t (λ undotted. ap (λ (ns : ManagedNames). has ns.managed meta_name) names_before ∙ put undotted) ∙ reads_before t _;
    listed = λ t covers n undotted some none. subst (λ (read : Option (List ℕ)). IsOnList read n) (sym (reads_after t _))
        (h.listed t (covers_in _ t covers) n undotted (subst IsSome (reads_after t n) some) (reads_before t n ∙ none));
    managed = λ t n undotted some none. subst (λ (ns : ManagedNames). has ns.managed n ≡ true) (sym names_after)
        (h.managed t n undotted (subst IsSome (reads_after t n) some) (reads_before t n ∙ none));
  }

  -- nothing was done between them
  pub manages_none : {A E : Type 0} (result : Result A E) → IsErr result → now ≡ mid → ManagesFile g old new meta_name result
  manages_none (Ok a) failed is = absurd cc
  manages_none (Err e) failed is = manages_between (Err e) (record {
    ok = tt;
    err = inl (ap (λ (d : D × ManagedNames). d.1) is);
    saves = record { list = λ t lists. tt; covers = λ t covers. still_covers _ covers };
    unsaved = λ t put. still_reads _;
    listed = λ t covers n undotted some none. no_some ((g.view now.0).reads n) (ap (λ (d : D × ManagedNames). (g.view d.0).reads n) is ∙ none) some;
    managed = λ t n undotted some none. no_some ((g.view now.0).reads n) (ap (λ (d : D × ManagedNames). (g.view d.0).reads n) is ∙ none) some;
  }) where
    still_reads : (list : List ℕ) → (g.view now.0).reads list ≡ (g.view mid.0).reads list
    still_reads list = ap (λ (d : D × ManagedNames). (g.view d.0).reads list) is

    still_covers : (list : List ℕ) → Covers ((g.view mid.0).reads list) mid.1 → Covers ((g.view now.0).reads list) now.1
    still_covers list covers = subst (λ (d : D × ManagedNames). Covers ((g.view d.0).reads list) d.1) (sym is) covers
