-- The first of some files that can't be read, and an opening line that wasn't told.
use Rattle.std.proofs.Common.{◌≡◌, ℕ, List, [], ◌∷◌, ◌++◌, append_assoc, inl, true, None, Result, Ok, Err, refl, sym, ap, subst, ◌∙◌}
use Rattle.std.specs.Result.{IsErrAnd}
use Rattle.tv_base.specs.Errors.{of_open_read}
use Rattle.tv_base.specs.declared.error.TantivyError.{TantivyError}
use Rattle.tv_base.specs.declared.open_errors.OpenReadError.{OpenReadError}
use Rattle.tv_base.specs.declared.open_errors.OpenReadError.TheVariants as read
use Rattle.tv_device.specs.Calls.{MakesRoom}
use Rattle.tv_device.specs.View.{OnlyReads, OnlyTells, View, Told as ToldParts}
use Rattle.tv_device.specs.ViewLaws.{deletes_then, kept_itself}
use Rattle.tv_device.specs.declared.directory.Directory.{Ghosts}
use Rattle.tv_index.specs.Crashes.{OnlyLooks}
use Rattle.tv_managed.specs.Collecting.{TakesNoLock}
use Rattle.tv_formats.specs.Commits.{Commit}
use Rattle.tv_formats.specs.Files.{Heard, Reads, Rose, Same}
use Rattle.tv_machine.specs.Lines.{opening_of}
use Rattle.tv_formats.specs.Names.{has}
use Rattle.tv_formats.specs.Segments.{all_required}
use Rattle.tv_machine.specs.State.{Catalog}
use Rattle.tv_store.specs.Bodies.{ReadsGoodFile, RefusesAt}
use Rattle.tv_store.specs.Kept.{FilesState}
use Rattle.tv_store.specs.Making.{OpensCommit, ChecksFiles, IsPlanned, ReadingCause}
use Rattle.tv_store.specs.OpeningCauses.{IsFirstBad, MeetsMissing, MeetsRefused}
use Rattle.tv_store.specs.ReadCauses.{ApplyCause, reading_facts}
use Rattle.tv_store.specs.Stays.{KeepsFiles}
use Rattle.tv_store.specs.StoreCauses.{MakesNoFile}
use Rattle.tv_store.specs.Telling.{TellsFirstPart, TellsNoLine}
use Rattle.tv_store.proofs.ReaderEvents.{all_pushed, cause_weaker}

-- Some first ones of these names were read, and these are left.
pub record ReadsFirst (tells : Type 0) (reads : Reads) (names left : List (List ℕ)) : Type 0 where
  pub front : List (List ℕ)
  pub split : names ≡ front ++ left
  pub good : tells → (n : List ℕ) → has front n ≡ true → ReadsGoodFile (reads n)

-- one more was
pub reads_more : (tells : Type 0) (reads : Reads) (names left rest : List (List ℕ)) (name : List ℕ) → left ≡ name ∷ rest → (tells → ReadsGoodFile (reads name)) → ReadsFirst tells reads names left → ReadsFirst tells reads names rest
reads_more tells reads names left rest name begins good h = record {
  front = h.front ++ name ∷ [];
  split = h.split ∙ ap (λ (ns : List (List ℕ)). h.front ++ ns) begins ∙ sym (append_assoc h.front (name ∷ []) rest);
  good = λ t. all_pushed (λ m. ReadsGoodFile (reads m)) h.front name (h.good t) (good t);
}

-- the next one isn't
pub unread_next : (tells : Type 0) (first now : Reads) (names left rest : List (List ℕ)) (name : List ℕ) (start before after : ℕ) (error : TantivyError)
    → (tells → Same first now) → before ≡ start → left ≡ name ∷ rest → ReadsFirst tells first names left
    → ApplyCause (reading_facts (Rose before after) (after ≡ before) (λ error. tells → RefusesAt now name error) (λ path. (path ≡ name) × (tells → now path ≡ None))) error
    → ApplyCause (reading_facts (Rose start after) (after ≡ start) (λ error. tells → MeetsRefused first names error) (λ path. tells → MeetsMissing first names path)) error
unread_next tells first now names left rest name start before after error same quiet begins so_far h =
    cause_weaker (reading_facts (Rose before after) (after ≡ before) (λ error. tells → RefusesAt now name error) (λ path. (path ≡ name) × (tells → now path ≡ None)))
    (reading_facts (Rose start after) (after ≡ start) (λ error. tells → MeetsRefused first names error) (λ path. tells → MeetsMissing first names path)) error
    (λ never. never) (λ rose. subst (λ (x : ℕ). Rose x after) quiet rose) (λ still. still ∙ quiet) (λ never. never)
    (λ error b t. (name, bad t, record { bytes = (b t).bytes; there = sym (same t name) ∙ (b t).there; why = (b t).why; no_body = (b t).no_body }))
    (λ path a t. (subst (IsFirstBad first names) (sym a.0) (bad t), sym (same t path) ∙ a.1 t)) h where
      bad : tells → IsFirstBad first names name
      bad t = record { front = so_far.front; rest = rest; split = so_far.split ∙ ap (λ (ns : List (List ℕ)). so_far.front ++ ns) begins; good = so_far.good t }

-- a call that reads takes no lock
pub reads_take_none : (error : OpenReadError) → TakesNoLock (of_open_read error)
reads_take_none (read.FileDoesNotExist path) = tt
reads_take_none (read.IoError fault path) = tt
reads_take_none (read.IncompatibleIndex why) = tt
reads_take_none read.Memory = tt

-- ---- what calls leave of the files of a store

module _ {O W : Type 0} {keeps more : View W → View W → Type 0} {view : O → View W} where
  managed_by : {old new : FilesState O} → (keeps (view old.outside) (view new.outside) → more (view old.outside) (view new.outside)) → KeepsFiles keeps view old new → KeepsFiles more view old new
  managed_by by h = record {
    managed = record { form = h.managed.form; locked = h.managed.locked; names = h.managed.names; collections = h.managed.collections; left = h.managed.left; below = by h.managed.below };
    open_files = h.open_files;
  }

  -- two calls, one after the other
  pub files_then : {old mid new : FilesState O} → (keeps (view old.outside) (view mid.outside) → more (view mid.outside) (view new.outside) → more (view old.outside) (view new.outside))
      → KeepsFiles keeps view old mid → KeepsFiles more view mid new → KeepsFiles more view old new
  files_then both first second = record {
    managed = record {
      form = second.managed.form ∙ first.managed.form;
      locked = second.managed.locked ∙ first.managed.locked;
      names = second.managed.names ∙ first.managed.names;
      collections = second.managed.collections ∙ first.managed.collections;
      left = second.managed.left ∙ first.managed.left;
      below = both first.managed.below second.managed.below;
    };
    open_files = second.open_files ∙ first.open_files;
  }

-- none was made
pub files_same : {O W : Type 0} (told : ToldParts) (view : O → View W) (files : FilesState O) → KeepsFiles (OnlyReads told) view files files
files_same told view files = record {
  managed = record { form = refl; locked = refl; names = refl; collections = refl; left = refl; below = record { kept = kept_itself told (view files.outside); content = λ t n. refl } };
  open_files = refl;
}

-- a call that only reads tells nothing more than one that tells
pub reads_tells : {W : Type 0} {told : ToldParts} {old new : View W} → OnlyReads told old new → OnlyTells told old new
reads_tells h = record { deletes_none = h.kept.frame.tells_none.deletes_none; locks = h.kept.frame.locks; watched = h.kept.watched; content = h.content }

-- room was made
pub room_reads : {A E O W : Type 0} {told : ToldParts} {len : ℕ} {result : Result A E} {view : O → View W} {old new : FilesState O} → KeepsFiles (MakesRoom told len result) view old new → KeepsFiles (OnlyReads told) view old new
room_reads h = managed_by (λ made. made.frame) h

-- it was read from, and then something was told
pub tells_behind : {W : Type 0} {told : ToldParts} {old mid new : View W} → OnlyReads told old mid → OnlyTells told mid new → OnlyTells told old new
tells_behind first second = record {
  deletes_none = deletes_then first.kept.frame.tells_none.deletes_none second.deletes_none;
  locks = λ t n. second.locks t n ∙ first.kept.frame.locks t n;
  watched = second.watched ∙ first.kept.watched;
  content = λ t n. second.content t n ∙ first.content t n;
}

-- ---- what wasn't read, or told

module _ {A O W C : Type 0} (g : Ghosts O W C) (old new : FilesState O) (result : Result A TantivyError) (given : TantivyError) (is : IsErrAnd result (λ e. e ≡ given)) (file : MakesNoFile given) (lock : TakesNoLock given)
    (looks : g.tells_images → OnlyLooks g old.outside new.outside) where
  -- not all of these files can be read
  pub unchecked : (names : List (List ℕ)) → ReadingCause g old.outside new.outside names given → KeepsFiles (OnlyReads g.told) g.view old new → ChecksFiles g old new names result
  unchecked names cause frame = by result is where
    by : (r : Result A TantivyError) → IsErrAnd r (λ e. e ≡ given) → ChecksFiles g old new names r
    by (Ok a) never = absurd never
    by (Err e) same = record {
      good = λ t. tt;
      quiet = tt;
      cause = subst (ReadingCause g old.outside new.outside names) (sym same) cause;
      file = subst MakesNoFile (sym same) file;
      lock = subst TakesNoLock (sym same) lock;
      frame = frame;
      looks = looks;
    }

  module _ (commit : Commit) (cause : ReadingCause g old.outside new.outside (all_required commit.segments) given) where
    -- the line wasn't told
    pub unbegun : (g.told.heard → TellsNoLine (g.view old.outside).heard (g.view new.outside).heard) → (g.told.heard → TellsFirstPart (g.view old.outside).heard (g.view new.outside).heard (opening_of commit))
        → KeepsFiles (OnlyTells g.told) g.view old new → OpensCommit g commit old new result
    unbegun untold part frame = by result is where
      by : (r : Result A TantivyError) → IsErrAnd r (λ e. e ≡ given) → OpensCommit g commit old new r
      by (Ok a) never = absurd never
      by (Err e) same = record {
        good = λ t. tt;
        told = λ t. tt;
        untold = untold;
        part = part;
        quiet = tt;
        cause = subst (ReadingCause g old.outside new.outside (all_required commit.segments)) (sym same) cause;
        file = subst MakesNoFile (sym same) file;
        lock = subst TakesNoLock (sym same) lock;
        frame = frame;
        looks = looks;
      }

    -- nothing was
    pub unasked : KeepsFiles (OnlyReads g.told) g.view old new → OpensCommit g commit old new result
    unasked frame =
        let heard : (g.view new.outside).heard ≡ (g.view old.outside).heard = frame.managed.below.kept.frame.tells_none.heard in
        unbegun (λ t. subst (TellsNoLine (g.view old.outside).heard) (sym heard) (inl refl))
        (λ t. subst (λ (h : Heard). TellsFirstPart (g.view old.outside).heard h (opening_of commit)) (sym heard) (inl refl))
        (managed_by reads_tells frame)

-- ---- what an opening does of a catalog that is seen as another one

module _ {inside catalog : Catalog} (required : List (List ℕ)) (line : List ℕ) (planned : IsPlanned inside required line) (is : inside ≡ catalog) where
  pub required_is : required ≡ all_required catalog.commit.segments
  required_is = planned.reads ∙ ap (λ (k : Catalog). all_required k.commit.segments) is

  pub line_is : line ≡ opening_of catalog.commit
  line_is = planned.tells ∙ ap (λ (k : Catalog). opening_of k.commit) is
