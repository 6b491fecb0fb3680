-- What validations tell, computed.
use Rattle.std.proofs.Common.{◌≡◌, ℕ, Bool, true, false, cond, List, [], ◌∷◌, ◌++◌, Some, None, refl, ap, ◌∙◌, arith, codes}
use Rattle.std.specs.Fmt.{digits}
use Rattle.std.specs.BTreeSet.{insert_key}
use Rattle.hex.specs.Hex.{encode_with}
use Rattle.tv_formats.specs.Footer.{footer, sealed}
use Rattle.tv_machine.specs.Index.{first_state}
use Rattle.tv_events.specs.AnswerLines.{line}
use Rattle.tv_machine.specs.Machine.{after}
use Rattle.tv_formats.specs.Names.{byte_cmp}
use Rattle.tv_machine.specs.ReportEvents.{committed_names, intact_at, validated, validate_step}
use Rattle.tv_machine.specs.State.{State, SealedFile, file_at, with_file}
use Rattle.tv_formats.proofs.Framing.{intact_own, sealed_intact}
use Rattle.tv_machine.proofs.Samples.{first_script}

-- of six files all can be read, and of five the checksum is that of the body
six_told : (s : State) (fast fieldnorm idx pos store term : List ℕ) (intact : Bool)
    → intact_at (file_at s fast) ≡ Some true → intact_at (file_at s fieldnorm) ≡ Some true → intact_at (file_at s idx) ≡ Some intact
    → intact_at (file_at s pos) ≡ Some true → intact_at (file_at s store) ≡ Some true → intact_at (file_at s term) ≡ Some true
    → (validated s (fast ∷ fieldnorm ∷ idx ∷ pos ∷ store ∷ term ∷ [])).0 ≡ line (codes "damaged") (cond intact [] (idx ∷ []))
six_told s fast fieldnorm idx pos store term true a b c d e f = rw (a, b, c, d, e, f) refl
six_told s fast fieldnorm idx pos store term false a b c d e f = rw (a, b, c, d, e, f) refl

-- the first of some files can't be read
first_told : (s : State) (first : List ℕ) (names : List (List ℕ)) → intact_at (file_at s first) ≡ None → (validated s (first ∷ names)).0 ≡ line (codes "refused") (codes "unreadable" ∷ first ∷ [])
first_told s first names e = rw e refl

-- the files of a first commit, in the order of their names
abbrev fast : List ℕ
fast = codes "a5c4dfcbdfe645089129e308e26d5523.fast"

abbrev fieldnorm : List ℕ
fieldnorm = codes "a5c4dfcbdfe645089129e308e26d5523.fieldnorm"

abbrev idx : List ℕ
idx = codes "a5c4dfcbdfe645089129e308e26d5523.idx"

abbrev pos : List ℕ
pos = codes "a5c4dfcbdfe645089129e308e26d5523.pos"

abbrev store : List ℕ
store = codes "a5c4dfcbdfe645089129e308e26d5523.store"

abbrev term : List ℕ
term = codes "a5c4dfcbdfe645089129e308e26d5523.term"

abbrev first_names : List (List ℕ)
first_names = fast ∷ fieldnorm ∷ idx ∷ pos ∷ store ∷ term ∷ []

abbrev first_files : State
first_files = after first_state first_script

-- the first byte of a body was changed to `0`
abbrev changed_files : State
changed_files = with_file first_files idx (SealedFile (codes "023456789" ++ footer 3421780262))

-- a delete file is managed that isn't there
abbrev lacking_files : State
lacking_files = record first_files { managed = insert_key byte_cmp first_files.managed (codes "a5c4dfcbdfe645089129e308e26d5523.0.del") }

names_are : committed_names first_files.catalog first_files.managed ≡ first_names
unfolding encode_with digits
names_are = refl

lacking_names : committed_names lacking_files.catalog lacking_files.managed ≡ codes "a5c4dfcbdfe645089129e308e26d5523.0.del" ∷ first_names
unfolding encode_with digits
lacking_names = refl

lacking_none : intact_at (file_at lacking_files (codes "a5c4dfcbdfe645089129e308e26d5523.0.del")) ≡ None
unfolding encode_with digits
lacking_none = refl

-- a file without a body is as it was sealed
empty_at : (s : State) (name : List ℕ) → file_at s name ≡ Some (SealedFile (sealed [])) → intact_at (file_at s name) ≡ Some true
empty_at s name e = ap intact_at e ∙ sealed_intact []

pub intact_told : (validate_step first_files).0 ≡ codes "damaged"
unfolding encode_with digits
intact_told =
    let body : file_at first_files idx ≡ Some (SealedFile (sealed (codes "123456789"))) = refl in
    ap (λ (names : List (List ℕ)). (validated first_files names).0) names_are
    ∙ six_told first_files fast fieldnorm idx pos store term true (empty_at first_files fast refl) (empty_at first_files fieldnorm refl) (ap intact_at body ∙ sealed_intact (codes "123456789"))
    (empty_at first_files pos refl) (empty_at first_files store refl) (empty_at first_files term refl)

pub damaged_told : (validate_step changed_files).0 ≡ codes "damaged a5c4dfcbdfe645089129e308e26d5523.idx"
unfolding encode_with digits
damaged_told =
    let body : file_at changed_files idx ≡ Some (SealedFile (codes "023456789" ++ footer 3421780262)) = refl in
    ap (λ (names : List (List ℕ)). (validated changed_files names).0) names_are
    ∙ six_told changed_files fast fieldnorm idx pos store term false (empty_at changed_files fast refl) (empty_at changed_files fieldnorm refl)
    (ap intact_at body ∙ intact_own (codes "023456789") 3421780262 (omega arith))
    (empty_at changed_files pos refl) (empty_at changed_files store refl) (empty_at changed_files term refl)

pub unreadable_told : (validate_step lacking_files).0 ≡ codes "refused unreadable a5c4dfcbdfe645089129e308e26d5523.0.del"
unreadable_told = ap (λ (names : List (List ℕ)). (validated lacking_files names).0) lacking_names ∙ first_told lacking_files _ first_names lacking_none
