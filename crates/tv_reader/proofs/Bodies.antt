-- The files of a segment: one file further, and the first that isn't read.
use Rattle.std.proofs.Common.{◌≡◌, ◌⊎◌, inl, inr, ℕ, ◌+◌, ◌<◌, List, [], ◌∷◌, ◌++◌, length, map, take, drop, get_or, None, Result, Ok, Err, sym, ap, subst, ◌∙◌}
use Rattle.std.specs.Prelude.{IsErrAnd}
use Rattle.std.proofs.lemmas.List.{drop_more, map-append, take-append-drop, take_more}
use Rattle.tv_base.specs.Causes.{IsDevice}
use Rattle.tv_base.specs.Errors.{of_open_read}
use Rattle.tv_base.specs.declared.error.TantivyError.{TantivyError}
use Rattle.tv_base.specs.declared.open_errors.OpenReadError.{OpenReadError}
use Rattle.tv_base.specs.declared.open_errors.OpenReadError.TheVariants as opening
use Rattle.tv_device.specs.View.{OnlyReads, View}
use Rattle.tv_device.specs.ViewLaws.{reads_then}
use Rattle.tv_device.specs.declared.directory.Directory.{Ghosts}
use Rattle.tv_formats.specs.declared.segment.SegmentComponent.{SegmentComponent}
use Rattle.tv_formats.specs.Files.{Reads, Rose, Same}
use Rattle.tv_formats.specs.declared.segment.LiveSegment.{LiveSegment}
use Rattle.tv_formats.specs.Segments.{name_of, required_components, required_names}
use Rattle.tv_index.specs.Indexes.{IndexState, KeepsIndex}
use Rattle.tv_managed.specs.Reading.{BodyFaults, HasNoBody, NamesFile, OpenBodyCause, ReadsBody, ReadsOther, ReadsRefused, ReadsSuch, SomeOther, SomeRefused}
use Rattle.tv_device.specs.View.{Told}
use Rattle.tv_reader.specs.Bodies.{ReadBodies, UnreadCause, UnreadFaults, UnreadFirst}

-- two calls that keep the index keep it one after the other
pub index_then : {D W : Type 0} {told : Told} {view : D → View W} {first next last : IndexState D} → KeepsIndex (OnlyReads told) view first next → KeepsIndex (OnlyReads told) view next last → KeepsIndex (OnlyReads told) view first last
index_then before after = record {
  form = record {
    directory = record {
      names = after.form.directory.names ∙ before.form.directory.names;
      below = reads_then before.form.directory.below after.form.directory.below;
    };
    settings = after.form.settings ∙ before.form.settings;
    schema = after.form.schema ∙ before.form.schema;
    executor = after.form.executor ∙ before.form.executor;
  };
  kept = after.kept ∙ before.kept;
}

-- ---- one file further

bodies_push : (reads : Reads) (names bodies : List (List ℕ)) (name body : List ℕ) → ReadBodies reads names bodies → ReadsBody (reads name) body → ReadBodies reads (names ++ name ∷ []) (bodies ++ body ∷ [])
bodies_push reads [] [] name body h here = (here, tt)
bodies_push reads [] (b ∷ bodies) name body h here = absurd h
bodies_push reads (n ∷ names) [] name body h here = absurd h
bodies_push reads (n ∷ names) (b ∷ bodies) name body h here = (h.0, bodies_push reads names bodies name body h.1 here)

pub bodies_more : (first now : Reads) (f : SegmentComponent → List ℕ) (cs : List SegmentComponent) (i : ℕ) (d : SegmentComponent) (done new : List (List ℕ)) (body : List ℕ) → Same first now → i < length cs
    → new ≡ done ++ body ∷ [] → ReadsBody (now (f (get_or cs i d))) body → ReadBodies first (map f (take i cs)) done → ReadBodies first (map f (take (i + 1) cs)) new
bodies_more first now f cs i d done new body same lt is here h =
    let name : List ℕ = f (get_or cs i d) in
    let names : map f (take i cs) ++ name ∷ [] ≡ map f (take (i + 1) cs) = sym (ap (map f) (take_more cs i d lt) ∙ map-append f (take i cs) (get_or cs i d ∷ [])) in
    let before : ReadsBody (first name) body = (here.0, sym (same name) ∙ here.1, here.2) in
    subst (λ (l : List (List ℕ)). ReadBodies first l new) names
    (subst (λ (l : List (List ℕ)). ReadBodies first (map f (take i cs) ++ name ∷ []) l) (sym is)
    (bodies_push first (map f (take i cs)) done name body h before))

-- all files that a segment requires
pub required_read : (reads : Reads) (id : List ℕ) (live : LiveSegment) (cs : List SegmentComponent) (bodies shown : List (List ℕ)) → cs ≡ required_components live → shown ≡ bodies
    → ReadBodies reads (map (name_of id live.deletes) cs) bodies → ReadBodies reads (required_names id live) shown
required_read reads id live cs bodies shown are is h =
    subst (λ (l : List (List ℕ)). ReadBodies reads (required_names id live) l) (sym is)
    (subst (λ (l : List SegmentComponent). ReadBodies reads (map (name_of id live.deletes) l) bodies) are h)

-- ---- a file that isn't read

module _ {D W C : Type 0} (g : Ghosts D W C) (old mid new : D) (f : SegmentComponent → List ℕ) (cs : List SegmentComponent) (i : ℕ) (d : SegmentComponent) (done : List (List ℕ)) (frame : OnlyReads g.told (g.view old) (g.view mid)) (still : (g.view mid).faults ≡ (g.view old).faults) (within : i < length cs) (so_far : g.told.content → ReadBodies (g.view old).reads (map f (take i cs)) done) where
  abbrev Name : List ℕ
  Name = f (get_or cs i d)

  abbrev Cause : OpenReadError → Type 0
  Cause why =
      OpenBodyCause ((g.view new).faults ≡ (g.view old).faults) (λ fault. SomeRefused fault × ((g.view new).faults ≡ (g.view old).faults))
      (λ other. SomeOther other × ((g.view new).faults ≡ (g.view old).faults)) (Rose (g.view old).faults (g.view new).faults) ⊥ why

  abbrev Refusal : OpenReadError → Type 0
  Refusal why = OpenBodyCause ((g.view old).reads Name ≡ None) (ReadsRefused ((g.view old).reads Name)) (ReadsOther ((g.view old).reads Name)) (Unit {0}) ⊥ why

  abbrev Outside : OpenReadError → Type 0
  Outside why = OpenBodyCause (Unit {0}) (λ fault. ReadsSuch ((g.view old).reads Name) HasNoBody) (λ other. ReadsSuch ((g.view old).reads Name) HasNoBody) (Unit {0}) ⊥ why

  such : (P : List ℕ → Type 0) → g.told.content → ReadsSuch ((g.view mid).reads Name) P → ReadsSuch ((g.view old).reads Name) P
  such P t h = (h.0, sym (frame.content t Name) ∙ h.1, h.2)

  unread : (why : OpenReadError) → NamesFile Name why → Cause why → (g.told.content → Refusal why) → (g.told.content → Outside why) → UnreadFirst g old new (map f cs) why
  unread why path cause err outside =
      let split : cs ≡ take i cs ++ get_or cs i d ∷ drop (i + 1) cs = sym (take-append-drop i cs) ∙ ap (λ (l : List SegmentComponent). take i cs ++ l) (drop_more cs i d within) in
      record {
        front = map f (take i cs);
        name = Name;
        rest = map f (drop (i + 1) cs);
        names_are = ap (map f) split ∙ map-append f (take i cs) (get_or cs i d ∷ drop (i + 1) cs);
        read = λ t. (done, so_far t);
        unread = record { path = path; cause = cause; err = err; outside = outside };
      }

  pub unread_cause : {A : Type 0} (why : OpenReadError) → BodyFaults {A = A} g mid new Name (Err why) → UnreadCause g old new (map f cs) (of_open_read why)
  unread_cause (opening.FileDoesNotExist path) h = unread (opening.FileDoesNotExist path) h.path (h.cause ∙ still) (λ t. sym (frame.content t Name) ∙ h.err t) (λ t. tt)
  unread_cause (opening.IoError fault path) h = unread (opening.IoError fault path) h.path (cause h.cause) (λ t. err t (h.err t)) (λ t. outside t (h.outside t)) where
    cause : (IsDevice fault × Rose (g.view mid).faults (g.view new).faults) ⊎ (SomeRefused fault × ((g.view new).faults ≡ (g.view mid).faults)) → Cause (opening.IoError fault path)
    cause (inl k) = inl (k.0, subst (λ (n : ℕ). Rose n (g.view new).faults) still k.1)
    cause (inr k) = inr (k.0, k.1 ∙ still)

    err : g.told.content → (IsDevice fault × Unit {0}) ⊎ ReadsRefused ((g.view mid).reads Name) fault → Refusal (opening.IoError fault path)
    err t (inl k) = inl k
    err t (inr k) = inr (k.0, sym (frame.content t Name) ∙ k.1, k.2)

    outside : g.told.content → (IsDevice fault × Unit {0}) ⊎ ReadsSuch ((g.view mid).reads Name) HasNoBody → Outside (opening.IoError fault path)
    outside t (inl k) = inl k
    outside t (inr k) = inr (such HasNoBody t k)
  unread_cause (opening.IncompatibleIndex why) h =
      unread (opening.IncompatibleIndex why) h.path (h.cause.0, h.cause.1 ∙ still)
      (λ t. let k = h.err t in (k.0, sym (frame.content t Name) ∙ k.1, k.2))
      (λ t. such HasNoBody t (h.outside t))
  unread_cause opening.Memory h = h.cause ∙ still

pub unread_faults : {A D W C : Type 0} (g : Ghosts D W C) (old new : D) (names : List (List ℕ)) (result : Result A TantivyError) (error : TantivyError) → IsErrAnd result (λ e. e ≡ error)
    → UnreadCause g old new names error → UnreadFaults g old new names result
unread_faults g old new names (Ok a) error h cause = absurd h
unread_faults g old new names (Err e) error h cause = record { quiet = tt; cause = subst (UnreadCause g old new names) (sym h) cause }
