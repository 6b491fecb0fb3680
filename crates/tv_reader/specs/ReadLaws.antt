-- Why files aren't read, seen from an earlier moment: nothing but reads came between.
use Rattle.std.proofs.Common.{◌≡◌, ◌⊎◌, inl, inr, ℕ, List, [], ◌∷◌, ◌++◌, sym, ap, subst, ◌∙◌, append_assoc}
use Rattle.tv_base.specs.Causes.{IsDevice}
use Rattle.tv_base.specs.declared.error.TantivyError.{TantivyError}
use Rattle.tv_base.specs.declared.error.TantivyError.TheVariants as errors
use Rattle.tv_base.specs.declared.open_errors.OpenReadError.{OpenReadError}
use Rattle.tv_base.specs.declared.open_errors.OpenReadError.TheVariants as opening
use Rattle.tv_device.specs.View.{OnlyReads}
use Rattle.tv_device.specs.declared.directory.Directory.{Ghosts}
use Rattle.tv_formats.specs.Files.{Reads, Rose, Same}
use Rattle.tv_managed.specs.Reading.{HasNoBody, ReadsRefused, ReadsSuch, SomeRefused}
use Rattle.tv_reader.specs.Bodies.{ReadBodies, UnreadCause, UnreadFile, UnreadFirst}

-- what is read now was read before
pub reads_back : (first now : Reads) → Same first now → (names bodies : List (List ℕ))
    → ReadBodies now names bodies → ReadBodies first names bodies
reads_back first now same [] [] h = tt
reads_back first now same [] (b ∷ bodies) h = absurd h
reads_back first now same (n ∷ names) [] h = absurd h
reads_back first now same (n ∷ names) (b ∷ bodies) h =
    ((h.0.0, sym (same n) ∙ h.0.1, h.0.2), reads_back first now same names bodies h.1)

-- what is read of some files and of others is read of both
pub reads_append : (reads : Reads) (names bodies others more : List (List ℕ)) → ReadBodies reads names bodies
    → ReadBodies reads others more → ReadBodies reads (names ++ others) (bodies ++ more)
reads_append reads [] [] others more h k = k
reads_append reads [] (b ∷ bodies) others more h k = absurd h
reads_append reads (n ∷ names) [] others more h k = absurd h
reads_append reads (n ∷ names) (b ∷ bodies) others more h k =
    (h.0, reads_append reads names bodies others more h.1 k)

module _ {D W C : Type 0} (g : Ghosts D W C) (old mid new : D)
    (frame : OnlyReads g.told (g.view old) (g.view mid))
    (still : (g.view mid).faults ≡ (g.view old).faults) where
  such : (name : List ℕ) (P : List ℕ → Type 0) → g.told.content → ReadsSuch ((g.view mid).reads name) P
      → ReadsSuch ((g.view old).reads name) P
  such name P t h = (h.0, sym (frame.content t name) ∙ h.1, h.2)

  file_back : (name : List ℕ) (why : OpenReadError) → UnreadFile g mid new name why
      → UnreadFile g old new name why
  file_back name (opening.FileDoesNotExist path) h = record {
    path = h.path;
    cause = h.cause ∙ still;
    err = λ t. sym (frame.content t name) ∙ h.err t;
    outside = λ t. tt;
  }
  file_back name (opening.IoError fault path) h = record {
    path = h.path;
    cause = cause h.cause;
    err = λ t. err t (h.err t);
    outside = λ t. outside t (h.outside t);
  } where
    cause : (IsDevice fault × Rose (g.view mid).faults (g.view new).faults)
        ⊎ (SomeRefused fault × ((g.view new).faults ≡ (g.view mid).faults))
        → (IsDevice fault × Rose (g.view old).faults (g.view new).faults)
        ⊎ (SomeRefused fault × ((g.view new).faults ≡ (g.view old).faults))
    cause (inl k) = inl (k.0, subst (λ (n : ℕ). Rose n (g.view new).faults) still k.1)
    cause (inr k) = inr (k.0, k.1 ∙ still)

    err : g.told.content → (IsDevice fault × Unit {0}) ⊎ ReadsRefused ((g.view mid).reads name) fault
        → (IsDevice fault × Unit {0}) ⊎ ReadsRefused ((g.view old).reads name) fault
    err t (inl k) = inl k
    err t (inr k) = inr (k.0, sym (frame.content t name) ∙ k.1, k.2)

    outside : g.told.content
        → (IsDevice fault × Unit {0}) ⊎ ReadsSuch ((g.view mid).reads name) HasNoBody
        → (IsDevice fault × Unit {0}) ⊎ ReadsSuch ((g.view old).reads name) HasNoBody
    outside t (inl k) = inl k
    outside t (inr k) = inr (such name HasNoBody t k)
  file_back name (opening.IncompatibleIndex why) h = record {
    path = h.path;
    cause = (h.cause.0, h.cause.1 ∙ still);
    err = λ t. let k = h.err t in (k.0, sym (frame.content t name) ∙ k.1, k.2);
    outside = λ t. such name HasNoBody t (h.outside t);
  }
  file_back name opening.Memory h = absurd h.cause

  module _ (front names rest all : List (List ℕ)) (split : all ≡ front ++ (names ++ rest))
      (read : g.told.content → (bodies : List (List ℕ)) × ReadBodies (g.view old).reads front bodies) where
    first_back : (why : OpenReadError) → UnreadFirst g mid new names why → UnreadFirst g old new all why
    first_back why h = record {
      front = front ++ h.front;
      name = h.name;
      rest = h.rest ++ rest;
      names_are =
          split ∙ (ap (λ l. front ++ (l ++ rest)) h.names_are
          ∙ (ap (λ l. front ++ l) (append_assoc h.front (h.name ∷ h.rest) rest)
          ∙ sym (append_assoc front h.front (h.name ∷ (h.rest ++ rest)))));
      read = λ t.
          let b = read t in
          let k = h.read t in (
            b.0 ++ k.0,
            reads_append (g.view old).reads front b.0 h.front k.0 b.1
                (reads_back (g.view old).reads (g.view mid).reads (frame.content t) h.front k.0 k.1),
          );
      unread = file_back h.name why h.unread;
    }

    -- where some files were read before, and others aren't now, not all of them are read
    pub cause_back : (e : TantivyError) → UnreadCause g mid new names e → UnreadCause g old new all e
    cause_back (errors.OpenReadError why) h = first_back why h
    cause_back errors.Memory h = h ∙ still
    cause_back other h = absurd h
