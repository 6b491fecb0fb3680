-- The damaged files among some, one file further.
use Rattle.std.proofs.Common.{◌≡◌, ◌⊎◌, inl, inr, ℕ, suc, zero, ◌<◌, ◌&&◌, ◌||◌, Bool, true, false, true≢false, not, List, [], ◌∷◌, ◌++◌, length, take, get_or, Some, None, Result, Ok, Err, refl, sym, ap, subst, ◌∙◌, arith, map, string_bytes, String, Global}
use Rattle.std.specs.Prelude.{IsErrAnd}
use Rattle.std.specs.BTreeSet.{insert_key}
use Rattle.std.proofs.lemmas.Bool.{or_parts, and_parts, not-true}
use Rattle.std.specs.String.{string_cmp}
use Rattle.std.proofs.Math.Bool.{or_assoc}
use Rattle.tv_base.specs.Causes.{IsDevice}
use Rattle.tv_base.specs.Errors.{of_open_read}
use Rattle.tv_base.specs.declared.error.TantivyError.{TantivyError}
use Rattle.tv_base.specs.declared.error.TantivyError.TheVariants as errors
use Rattle.tv_base.specs.declared.open_errors.OpenReadError.{OpenReadError}
use Rattle.tv_base.specs.declared.open_errors.OpenReadError.TheVariants as opening
use Rattle.tv_device.specs.View.{OnlyReads}
use Rattle.tv_device.specs.declared.directory.Directory.{Ghosts}
use Rattle.tv_managed.specs.Reading.{FooterFaults, OpenBodyCause, ReadsRefused, ReadsSuch, SomeRefused}
use Rattle.tv_managed.specs.Names.{ManagedNames}
use Rattle.tv_formats.specs.Files.{Reads, Rose, Same}
use Rattle.tv_formats.specs.Meaning.{Means}
use Rattle.tv_formats.specs.Names.{has, is, meta_name}
use Rattle.tv_formats.proofs.Entries.{has_put, is_text}
use Rattle.tv_formats.proofs.Required.{by_one}
use Rattle.tv_formats.proofs.TextSets.{texts_inserted}
use Rattle.tv_index.specs.Checksums.{AreDamaged, TellsFile, UnreadCause, UnreadFaults, UnreadFile, UnreadMeta, ValidateCause, ValidateFaults, looked_at}
use Rattle.tv_index.specs.Indexes.{MeansSuch}
use Rattle.tv_metas.specs.Metas.{commit_of, settings_of}
use Rattle.tv_index.specs.Standing.{LoadsMeta}
use Rattle.tv_metas.specs.declared.index_meta.UntrackedIndexMeta.{UntrackedIndexMeta}

-- ---- names

has_last : (names : List (List ℕ)) (name n : List ℕ) → has (names ++ name ∷ []) n ≡ (has names n || is name n)
has_last [] name n = last (is name n) where
  last : (b : Bool) → (b || false) ≡ b
  last true = refl
  last false = refl
has_last (x ∷ names) name n = ap (λ (b : Bool). is x n || b) (has_last names name n) ∙ sym (or_assoc (is x n) (has names n) (is name n))

right : (b c : Bool) → (not b && c) ≡ false → c ≡ true → b ≡ true
right true c h k = refl
right false c h k = absurd (true≢false (sym k ∙ h))

-- ---- one file further

pub one_further : (reads : Reads) (done damaged new : List (List ℕ)) (name : List ℕ) (is_right : Bool) → ((n : List ℕ) → has new n ≡ ((not is_right && is name n) || has damaged n))
    → TellsFile reads is_right name → AreDamaged reads done damaged → AreDamaged reads (done ++ name ∷ []) new
one_further reads done damaged new name is_right put here h = record { named = named; others = others } where
  there : (n : List ℕ) → has done n ≡ true → has (done ++ name ∷ []) n ≡ true
  there n e = has_last done name n ∙ ap (λ (b : Bool). b || is name n) e

  last : (n : List ℕ) → is name n ≡ true → has (done ++ name ∷ []) n ≡ true
  last n e = has_last done name n ∙ ap (λ (b : Bool). has done n || b) e ∙ late (has done n) where
    late : (b : Bool) → (b || true) ≡ true
    late true = refl
    late false = refl

  named : (n : List ℕ) → has new n ≡ true → (has (done ++ name ∷ []) n ≡ true) × TellsFile reads false n
  named n e = by_one (not is_right && is name n) (has damaged n) (sym (put n) ∙ e)
      (λ t. let two = and_parts (not is_right) (is name n) t in
      (last n two.1, subst (TellsFile reads false) (is_text name n two.1) (subst (λ (b : Bool). TellsFile reads b name) (not-true is_right two.0) here)))
      (λ t. (there n (h.named n t).0, (h.named n t).1))

  others : (n : List ℕ) → has (done ++ name ∷ []) n ≡ true → has new n ≡ false → TellsFile reads true n
  others n e none =
      let two = or_parts (not is_right && is name n) (has damaged n) (sym (put n) ∙ none) in
      by_one (has done n) (is name n) (sym (has_last done name n) ∙ e) (λ t. h.others n t two.1)
      (λ t. subst (TellsFile reads true) (is_text name n t) (subst (λ (b : Bool). TellsFile reads b name) (right is_right (is name n) two.0 t) here))

-- ---- a file that isn't read

split : (names : List (List ℕ)) (i : ℕ) (name : List ℕ) → i < length names → name ≡ get_or names i name → (rest : List (List ℕ)) × (names ≡ take i names ++ name ∷ rest)
split [] i name lt is = absurd (grind (arith, lt))
split (x ∷ names) zero name lt is = (names, ap (λ (l : List ℕ). l ∷ names) (sym is))
split (x ∷ names) (suc i) name lt is =
    let h = split names i name (grind (arith, lt)) is in (h.0, ap (λ (l : List (List ℕ)). x ∷ l) h.1)

tells_some : (reads : Reads) (names damaged : List (List ℕ)) (n : List ℕ) (b : Bool) → has damaged n ≡ b → AreDamaged reads names damaged → has names n ≡ true → (is_right : Bool) × TellsFile reads is_right n
tells_some reads names damaged n true e h t = (false, (h.named n e).1)
tells_some reads names damaged n false e h t = (true, h.others n t e)

module _ {D W C : Type 0} (g : Ghosts D W C) (old mid new : D) (names damaged : List (List ℕ)) (i : ℕ) (name : List ℕ) (frame : OnlyReads g.told (g.view old) (g.view mid)) (still : (g.view mid).faults ≡ (g.view old).faults) (within : i < length names) (item : name ≡ get_or names i name) (so_far : g.told.content → AreDamaged (g.view old).reads (take i names) damaged) where
  abbrev Cause : OpenReadError → Type 0
  Cause why = OpenBodyCause ((g.view new).faults ≡ (g.view old).faults) (λ fault. SomeRefused fault × ((g.view new).faults ≡ (g.view old).faults)) (λ other. ⊥) (Rose (g.view old).faults (g.view new).faults) ⊥ why

  unread : (why : OpenReadError) → FooterFaults {A = Bool} g mid new name (Err why) → Cause why
      → (g.told.content → OpenBodyCause ((g.view old).reads name ≡ None) (ReadsRefused ((g.view old).reads name)) (λ other. ⊥) (Unit {0}) ⊥ why) → UnreadFile g old new names why
  unread why faults cause err =
      let s = split names i name within item in
      record {
        front = take i names;
        name = name;
        rest = s.0;
        names_are = s.1;
        read = λ t n e. tells_some (g.view old).reads (take i names) damaged n (has damaged n) refl (so_far t) e;
        path = faults.path;
        cause = cause;
        err = err;
      }

  pub unread_cause : (why : OpenReadError) → FooterFaults {A = Bool} g mid new name (Err why) → UnreadCause g old new names (of_open_read why)
  unread_cause (opening.FileDoesNotExist path) f = unread (opening.FileDoesNotExist path) f (f.cause ∙ still) (λ t. sym (frame.content t name) ∙ f.err t)
  unread_cause (opening.IoError fault path) f = unread (opening.IoError fault path) f (cause f.cause) (λ t. err t (f.err t)) where
    cause : (IsDevice fault × Rose (g.view mid).faults (g.view new).faults) ⊎ (SomeRefused fault × ((g.view new).faults ≡ (g.view mid).faults)) → Cause (opening.IoError fault path)
    cause (inl k) = inl (k.0, subst (λ (n : ℕ). Rose n (g.view new).faults) still k.1)
    cause (inr k) = inr (k.0, k.1 ∙ still)

    err : g.told.content → (IsDevice fault × Unit {0}) ⊎ ReadsRefused ((g.view mid).reads name) fault → (IsDevice fault × Unit {0}) ⊎ ReadsRefused ((g.view old).reads name) fault
    err t (inl k) = inl k
    err t (inr k) = inr (k.0, sym (frame.content t name) ∙ k.1, k.2)
  unread_cause (opening.IncompatibleIndex why) f = absurd f.cause
  unread_cause opening.Memory f = f.cause ∙ still

-- ---- one name more in the set

pub one_put : (keys new : List (String Global)) (copy : String Global) (name n : List ℕ) (is_right : Bool) → is_right ≡ false → new ≡ insert_key string_cmp keys copy → string_bytes copy ≡ name
    → has (map string_bytes new) n ≡ ((not is_right && is name n) || has (map string_bytes keys) n)
one_put keys new copy name n is_right wrong put text =
    ap (λ (names : List (List ℕ)). has names n) (texts_inserted keys new copy name put text) ∙ has_put (map string_bytes keys) name n
    ∙ sym (ap (λ (b : Bool). (not b && is name n) || has (map string_bytes keys) n) wrong)

-- ---- behind a call that only reads

tells_before : (old mid : Reads) (n : List ℕ) (b : Bool) → Same old mid → TellsFile mid b n → TellsFile old b n
tells_before old mid n b same h = (h.0, sym (same n) ∙ h.1, h.2)

damaged_before : (old mid : Reads) (names damaged : List (List ℕ)) → Same old mid → AreDamaged mid names damaged → AreDamaged old names damaged
damaged_before old mid names damaged same h = record {
  named = λ n e. ((h.named n e).0, tells_before old mid n false same (h.named n e).1);
  others = λ n e none. tells_before old mid n true same (h.others n e none);
}

pub unread_faults : {A D W C : Type 0} (g : Ghosts D W C) (old new : D) (names : List (List ℕ)) (result : Result A TantivyError) (error : TantivyError) → IsErrAnd result (λ e. e ≡ error)
    → UnreadCause g old new names error → UnreadFaults g old new names result
unread_faults g old new names (Ok a) error h cause = absurd h
unread_faults g old new names (Err e) error h cause = record { quiet = tt; cause = subst (UnreadCause g old new names) (sym h) cause }

module _ {D W C : Type 0} (g : Ghosts D W C) (directory : D × ManagedNames) (schema : List ℕ) (meta : UntrackedIndexMeta) (names : List (List ℕ)) (loads : LoadsMeta g directory.0 (Some schema) meta) (are : names ≡ looked_at (commit_of meta) directory.1.managed) where
  means : g.told.content → ReadsSuch ((g.view directory.0).reads meta_name) (λ bytes. Means (settings_of meta) schema bytes (commit_of meta))
  means t =
      let m = loads.means t in
      (m.0, m.1, subst (λ (l : List ℕ). Means (settings_of meta) l m.0 (commit_of meta)) loads.schema m.2)

  module _ (mid new : D) (frame : OnlyReads g.told (g.view directory.0) (g.view mid)) (still : (g.view mid).faults ≡ (g.view directory.0).faults) where
    pub damaged_files : (damaged : List (List ℕ)) → g.told.content → AreDamaged (g.view mid).reads names damaged
        → MeansSuch schema ((g.view directory.0).reads meta_name) (λ commit. AreDamaged (g.view directory.0).reads (looked_at commit directory.1.managed) damaged)
    damaged_files damaged t h =
        let m = means t in (
          m.0,
          m.1,
          (
            settings_of meta,
            commit_of meta,
            m.2,
            subst (λ (l : List (List ℕ)). AreDamaged (g.view directory.0).reads l damaged) are (damaged_before (g.view directory.0).reads (g.view mid).reads names damaged (frame.content t) h),
          ),
        )

    cause_before : (why : OpenReadError) → OpenBodyCause ((g.view new).faults ≡ (g.view mid).faults) (λ fault. SomeRefused fault × ((g.view new).faults ≡ (g.view mid).faults)) (λ other. ⊥) (Rose (g.view mid).faults (g.view new).faults) ⊥ why
        → OpenBodyCause ((g.view new).faults ≡ (g.view directory.0).faults) (λ fault. SomeRefused fault × ((g.view new).faults ≡ (g.view directory.0).faults)) (λ other. ⊥) (Rose (g.view directory.0).faults (g.view new).faults) ⊥ why
    cause_before (opening.FileDoesNotExist path) k = k ∙ still
    cause_before (opening.IoError fault path) (inl k) = inl (k.0, subst (λ (n : ℕ). Rose n (g.view new).faults) still k.1)
    cause_before (opening.IoError fault path) (inr k) = inr (k.0, k.1 ∙ still)
    cause_before (opening.IncompatibleIndex why) k = absurd k
    cause_before opening.Memory k = absurd k

    err_before : (name : List ℕ) (why : OpenReadError) → g.told.content → OpenBodyCause ((g.view mid).reads name ≡ None) (ReadsRefused ((g.view mid).reads name)) (λ other. ⊥) (Unit {0}) ⊥ why
        → OpenBodyCause ((g.view directory.0).reads name ≡ None) (ReadsRefused ((g.view directory.0).reads name)) (λ other. ⊥) (Unit {0}) ⊥ why
    err_before name (opening.FileDoesNotExist path) t k = sym (frame.content t name) ∙ k
    err_before name (opening.IoError fault path) t (inl k) = inl k
    err_before name (opening.IoError fault path) t (inr k) = inr (k.0, sym (frame.content t name) ∙ k.1, k.2)
    err_before name (opening.IncompatibleIndex why) t k = absurd k
    err_before name opening.Memory t k = absurd k

    file_before : (why : OpenReadError) → UnreadFile g mid new names why → UnreadFile g directory.0 new (looked_at (commit_of meta) directory.1.managed) why
    file_before why f = record {
      front = f.front;
      name = f.name;
      rest = f.rest;
      names_are = sym are ∙ f.names_are;
      read = λ t n e. let h = f.read t n e in (h.0, tells_before (g.view directory.0).reads (g.view mid).reads n h.0 (frame.content t) h.1);
      path = f.path;
      cause = cause_before why f.cause;
      err = λ t. err_before f.name why t (f.err t);
    }

    pub validate_faults : {A : Type 0} (result : Result A TantivyError) → UnreadFaults g mid new names result → ValidateFaults g directory new schema result
    validate_faults (Ok a) f = record { quiet = f.quiet ∙ still; cause = tt }
    validate_faults (Err e) f = record { quiet = tt; cause = cause e f.cause } where
      cause : (error : TantivyError) → UnreadCause g mid new names error → ValidateCause g directory new schema error
      cause (errors.OpenReadError why) k = inr (record { settings = settings_of meta; commit = commit_of meta; means = means; file = file_before why k })
      cause errors.Memory k = k ∙ still
      cause other k = absurd k

-- `meta.json` wasn't read, or memory was wanted
pub validate_fails : {A D W C : Type 0} (g : Ghosts D W C) (directory : D × ManagedNames) (new : D) (schema : List ℕ) (result : Result A TantivyError) (error : TantivyError) → IsErrAnd result (λ e. e ≡ error)
    → UnreadMeta g directory.0 new schema error → ValidateFaults g directory new schema result
validate_fails g directory new schema (Ok a) error h cause = absurd h
validate_fails g directory new schema (Err e) error h cause = record { quiet = tt; cause = subst (ValidateCause g directory new schema) (sym h) (unloaded error cause) } where
  unloaded : (why : TantivyError) → UnreadMeta g directory.0 new schema why → ValidateCause g directory new schema why
  unloaded (errors.OpenReadError why) k = inl k
  unloaded other k = k
