-- The outcomes of a collection can be read off its line, and so lines and events determine a run.
use Rattle.std.proofs.Common.{◌≡◌, ℕ, ◌==◌, Bool, true, false, true≢false, not, codes, List, [], ◌∷◌, ◌++◌, refl, sym, ap, ap₂, subst, ◌∙◌, arith, append_assoc, append-nil, get_or, Option, Some, None}
use Rattle.std.specs.Fmt.{decimal}
use Rattle.std.proofs.lemmas.Bool.Decides.{nat_tests}
use Rattle.std.proofs.lemmas.List.{append_cancel_left}
use Rattle.std.specs.List.{list_all, AllByRecursion}
use Rattle.std.proofs.lemmas.List.Folds.{list_all-append}
use Rattle.tv_events.specs.declared.event.Event.{Event}
use Rattle.tv_events.specs.declared.event.Event.TheVariants as events
use Rattle.tv_formats.specs.Names.{is, is_name_byte, is_plain, has}
use Rattle.tv_formats.specs.Collections.{Collection, collection_at, done_of, failed_of, held}
use Rattle.tv_machine.specs.Living.{is_busy, living}
use Rattle.tv_events.specs.AnswerLines.{line}
use Rattle.tv_machine.specs.Lines.{unless, given, opening_line}
use Rattle.tv_machine.specs.State.{State}
use Rattle.tv_machine.specs.CollectionEvents.{collected, garbage, collected_line, without_files, having_deleted, is_done, tried_first}
use Rattle.tv_machine.specs.Machine.{Turn, step, answers, after, events_of}
use Rattle.tv_events.specs.Script.{Fits}
use Rattle.tv_machine.specs.Telling.{are_plain, Tells, TellsStep, Determined}
use Rattle.tv_formats.proofs.PlainNames.{all_more, both, plain_parts}
use Rattle.tv_machine.proofs.ManagedStates.{plain_filter, step_plain}

-- words, each behind a space
abbrev spaced : List (List ℕ) → List ℕ
spaced [] = []
spaced (word ∷ words) = 32 ∷ word ++ spaced words

line_spaced : (text : List ℕ) (words : List (List ℕ)) → line text words ≡ text ++ spaced words
line_spaced text [] = sym (append-nil text)
line_spaced text (word ∷ words) = line_spaced (text ++ 32 ∷ word) words ∙ append_assoc text (32 ∷ word) (spaced words)

spaced_append : (xs ys : List (List ℕ)) → spaced (xs ++ ys) ≡ spaced xs ++ spaced ys
spaced_append [] ys = refl
spaced_append (x ∷ xs) ys = ap (λ (l : List ℕ). 32 ∷ l) (ap (λ (l : List ℕ). x ++ l) (spaced_append xs ys) ∙ sym (append_assoc x (spaced xs) (spaced ys)))

-- the words of a collection's line
collected_spaced : (done failed : List (List ℕ)) → collected_line done failed ≡ codes "gc deleted" ++ spaced (done ++ codes "failed" ∷ failed)
collected_spaced done failed =
    ap₂ (λ (x y : List ℕ). x ++ 32 ∷ y) (line_spaced (codes "gc deleted") done) (line_spaced (codes "failed") failed)
    ∙ append_assoc (codes "gc deleted") (spaced done) (spaced (codes "failed" ∷ failed))
    ∙ ap (λ (l : List ℕ). codes "gc deleted" ++ l) (sym (spaced_append done (codes "failed" ∷ failed)))

-- no space stands in the word
abbrev is_word : List ℕ → Bool
is_word word = list_all (λ b. not (b == 32)) word

pub heads : {X : Type 0} (x y : X) (xs ys : List X) → x ∷ xs ≡ y ∷ ys → (x ≡ y) × (xs ≡ ys)
heads x y xs ys e = (cc, cc)

-- a word ends where the next space stands
not_space : (b : ℕ) (rest : List ℕ) (words : List (List ℕ)) → not (b == 32) ≡ true → b ∷ rest ≡ spaced words → ⊥
not_space b rest [] h e = cc
not_space b rest (word ∷ words) h e = true≢false (sym h ∙ ap (λ (n : ℕ). not (n == 32)) (heads b 32 rest (word ++ spaced words) e).0)

words_end : (x y : List ℕ) (xs ys : List (List ℕ)) → is_word x ≡ true → is_word y ≡ true → x ++ spaced xs ≡ y ++ spaced ys → (x ≡ y) × (spaced xs ≡ spaced ys)
words_end [] [] xs ys h k e = (refl, e)
words_end [] (b ∷ y) xs ys h k e = absurd (not_space b (y ++ spaced ys) xs (both (not (b == 32)) (is_word y) k).0 (sym e))
words_end (a ∷ x) [] xs ys h k e = absurd (not_space a (x ++ spaced xs) ys (both (not (a == 32)) (is_word x) h).0 e)
words_end (a ∷ x) (b ∷ y) xs ys h k e =
    let parts = heads a b (x ++ spaced xs) (y ++ spaced ys) e in
    let rest = words_end x y xs ys (both (not (a == 32)) (is_word x) h).1 (both (not (b == 32)) (is_word y) k).1 parts.1 in
    (ap₂ (λ (n : ℕ) (l : List ℕ). n ∷ l) parts.0 rest.0, rest.1)

-- words without spaces are told by their line
spaced_tells : (xs ys : List (List ℕ)) → list_all is_word xs ≡ true → list_all is_word ys ≡ true → spaced xs ≡ spaced ys → xs ≡ ys
spaced_tells [] [] h k e = refl
spaced_tells [] (y ∷ ys) h k e = absurd cc
spaced_tells (x ∷ xs) [] h k e = absurd cc
spaced_tells (x ∷ xs) (y ∷ ys) h k e =
    let words_x = both (is_word x) (list_all is_word xs) h in
    let words_y = both (is_word y) (list_all is_word ys) k in
    let parts = words_end x y xs ys words_x.0 words_y.0 (heads 32 32 (x ++ spaced xs) (y ++ spaced ys) e).1 in
    ap₂ (λ (w : List ℕ) (l : List (List ℕ)). w ∷ l) parts.0 (spaced_tells xs ys words_x.1 words_y.1 parts.1)

plain_isnt_failed : (name : List ℕ) → is_plain name ≡ true → name ≡ codes "failed" → ⊥
plain_isnt_failed name h e = true≢false (sym (plain_parts name h).1 ∙ ap (λ (n : List ℕ). not (is n (codes "failed"))) e)

-- plain names are words
plain_words : (names : List (List ℕ)) → are_plain names ≡ true → list_all is_word names ≡ true
plain_words names h = all_more is_plain is_word names (λ name plain. all_more is_name_byte (λ b. not (b == 32)) name (λ b e. grind (arith, nat_tests)) (plain_parts name plain).0) h

words_plain : (done failed : List (List ℕ)) → are_plain done ≡ true → are_plain failed ≡ true → list_all is_word (done ++ codes "failed" ∷ failed) ≡ true
words_plain done failed h k = rw (list_all-append is_word done (codes "failed" ∷ failed), plain_words done h) (plain_words failed k)

-- the word `failed` stands where the names that were done end
cut : (xs ys us vs : List (List ℕ)) → are_plain xs ≡ true → are_plain ys ≡ true → xs ++ codes "failed" ∷ us ≡ ys ++ codes "failed" ∷ vs → (xs ≡ ys) × (us ≡ vs)
cut [] [] us vs h k e = (refl, (heads (codes "failed") (codes "failed") us vs e).1)
cut [] (y ∷ ys) us vs h k e = absurd (plain_isnt_failed y (both (is_plain y) (are_plain ys) k).0 (sym (heads (codes "failed") y us (ys ++ codes "failed" ∷ vs) e).0))
cut (x ∷ xs) [] us vs h k e = absurd (plain_isnt_failed x (both (is_plain x) (are_plain xs) h).0 (heads x (codes "failed") (xs ++ codes "failed" ∷ us) vs e).0)
cut (x ∷ xs) (y ∷ ys) us vs h k e =
    let parts = heads x y (xs ++ codes "failed" ∷ us) (ys ++ codes "failed" ∷ vs) e in
    let rest = cut xs ys us vs (both (is_plain x) (are_plain xs) h).1 (both (is_plain y) (are_plain ys) k).1 parts.1 in
    (ap₂ (λ (w : List ℕ) (l : List (List ℕ)). w ∷ l) parts.0 rest.0, rest.1)

-- a line tells what was done and what failed
line_tells : (done failed others more : List (List ℕ)) → are_plain done ≡ true → are_plain failed ≡ true → are_plain others ≡ true → are_plain more ≡ true
    → collected_line done failed ≡ collected_line others more → (done ≡ others) × (failed ≡ more)
line_tells done failed others more p q r u e =
    let words : spaced (done ++ codes "failed" ∷ failed) ≡ spaced (others ++ codes "failed" ∷ more) =
    append_cancel_left (codes "gc deleted") _ _ (sym (collected_spaced done failed) ∙ e ∙ collected_spaced others more) in
    cut done others failed more p r (spaced_tells _ _ (words_plain done failed p q) (words_plain others more r u) words)

parts_plain : (names : List (List ℕ)) (outcomes : List Bool) → are_plain names ≡ true → (are_plain (done_of names outcomes) ≡ true) × (are_plain (failed_of names outcomes) ≡ true)
parts_plain [] outcomes h = (refl, refl)
parts_plain (name ∷ names) [] h = (h, refl)
parts_plain (name ∷ names) (true ∷ outcomes) h = let t = both (is_plain name) (are_plain names) h in rw t.0 (parts_plain names outcomes t.1)
parts_plain (name ∷ names) (false ∷ outcomes) h = let t = both (is_plain name) (are_plain names) h in rw t.0 (parts_plain names outcomes t.1)

-- the outcomes can be read off a collection's line
pub tells : (names : List (List ℕ)) → are_plain names ≡ true → Tells names
tells names h a b e = let p = parts_plain names a h in let q = parts_plain names b h in line_tells _ _ _ _ p.0 p.1 q.0 q.1 e

-- of a step's line the word for what became of the name
step_spaced : (number name : List ℕ) (word : List ℕ) → line (codes "gc") (number ∷ word ∷ name ∷ []) ≡ (codes "gc" ++ 32 ∷ number) ++ (32 ∷ word ++ spaced (name ∷ []))
step_spaced number name word = line_spaced (codes "gc" ++ 32 ∷ number) (word ∷ name ∷ [])

-- the words for both begin with other letters
apart_words : (rest : List ℕ) → 32 ∷ codes "done" ++ rest ≡ 32 ∷ codes "failed" ++ rest → ⊥
apart_words rest e = true≢false (ap (λ (l : List ℕ). get_or l 1 0 == 100) e)

-- the line of a step tells whether its name was done
pub tells_step : (s : State) (c : Collection) → TellsStep s c
tells_step s c number name left true true e = refl
tells_step s c number name left false false e = refl
tells_step s c number name left true false e =
    absurd (apart_words (spaced (name ∷ [])) (append_cancel_left (codes "gc" ++ 32 ∷ decimal number) _ _ (sym (step_spaced (decimal number) name (codes "done")) ∙ e ∙ step_spaced (decimal number) name (codes "failed"))))
tells_step s c number name left false true e =
    absurd (apart_words (spaced (name ∷ [])) (append_cancel_left (codes "gc" ++ 32 ∷ decimal number) _ _ (sym (step_spaced (decimal number) name (codes "done")) ∙ sym e ∙ step_spaced (decimal number) name (codes "failed"))))

same_tried : (s : State) (number : ℕ) (c : Collection) (untried : List (List ℕ)) (a b : List Bool) → (tried_first s number c untried a).0 ≡ (tried_first s number c untried b).0 → (tried_first s number c untried a).1 ≡ (tried_first s number c untried b).1
same_tried s number c [] a b e = refl
same_tried s number c (name ∷ left) a b e = ap (λ (d : Bool). (having_deleted s number c name left d).1) (tells_step s c number name left (is_done a) (is_done b) e)

same_given : (s : State) (number : ℕ) (found : Option Collection) (a b : List Bool) → (given s found (codes "unknown-collection") (λ c. tried_first s number c c.untried a)).0 ≡ (given s found (codes "unknown-collection") (λ c. tried_first s number c c.untried b)).0
    → (given s found (codes "unknown-collection") (λ c. tried_first s number c c.untried a)).1 ≡ (given s found (codes "unknown-collection") (λ c. tried_first s number c c.untried b)).1
same_given s number None a b e = refl
same_given s number (Some c) a b e = same_tried s number c c.untried a b e

-- a collection at once, unless it is refused
same_collected : (s : State) (busy : Bool) (a b : List Bool) → are_plain s.managed ≡ true
    → (unless s ((busy, codes "lock-busy" ∷ []) ∷ []) (collected s a)).0 ≡ (unless s ((busy, codes "lock-busy" ∷ []) ∷ []) (collected s b)).0
    → (unless s ((busy, codes "lock-busy" ∷ []) ∷ []) (collected s a)).1 ≡ (unless s ((busy, codes "lock-busy" ∷ []) ∷ []) (collected s b)).1
same_collected s true a b h e = refl
same_collected s false a b h e =
    ap (without_files s) (tells (garbage s) (plain_filter (λ name. not (has (living s.catalog ++ held s.collections) name)) s.managed h) a b e).0

-- events that tell the same come to the same state
same_step : (s : State) (event : Event) (a b : List Bool) → are_plain s.managed ≡ true → (step s event a).0 ≡ (step s event b).0 → (step s event a).1 ≡ (step s event b).1
same_step s events.Gc a b h e = same_collected s (is_busy s.catalog) a b h e
same_step s (events.GcStep number) a b h e = same_given s number (collection_at s.collections number) a b e
same_step s other a b h e = refl

same_run : (s : State) (a b : List Turn) → are_plain s.managed ≡ true → AllByRecursion Fits (events_of a) → events_of a ≡ events_of b → answers s a ≡ answers s b → after s a ≡ after s b
same_run s [] [] h fits e k = refl
same_run s [] (y ∷ b) h fits e k = absurd cc
same_run s (x ∷ a) [] h fits e k = absurd cc
same_run s (x ∷ a) (y ∷ b) h fits e k =
    let events_same = heads x.0 y.0 (events_of a) (events_of b) e in
    let lines_same = heads (step s x.0 x.1).0 (step s y.0 y.1).0 (answers (step s x.0 x.1).1 a) (answers (step s y.0 y.1).1 b) k in
    let next : (step s x.0 x.1).1 ≡ (step s y.0 y.1).1 =
    subst (λ (event : Event). (step s x.0 x.1).0 ≡ (step s event y.1).0 → (step s x.0 x.1).1 ≡ (step s event y.1).1) events_same.0 (same_step s x.0 x.1 y.1 h) lines_same.0 in
    same_run (step s x.0 x.1).1 a b (step_plain s x.0 x.1 fits.0 h) fits.1 events_same.1 (lines_same.1 ∙ ap (λ (t : State). answers t b) (sym next)) ∙ ap (λ (t : State). after t b) next

-- lines and events determine a run
pub determined : (s : State) → are_plain s.managed ≡ true → Determined s
determined s h a b fits e k = same_run s a b h fits e (heads (opening_line s) (opening_line s) (answers s a) (answers s b) k).1
