use Rattle.std.proofs.Common.{rules, ◌≡◌, ◌≤◌, ◌+◌, inl, ℕ, Bool, false, List, [], ◌∷◌, ◌++◌, Some, refl, sym, ap, subst, ◌∙◌, arith}
use Rattle.std.proofs.lemmas.Grind.{common_steps}
use Rattle.std.proofs.lemmas.List.{nil_from_length}
use Rattle.std.specs.List.{AllByRecursion}
use Rattle.std.specs.Vec.Iter.{into_iter_items}
use Rattle.tv_formats.specs.Names.{at, has}
use Rattle.tv_machine.specs.Index.{IsFileOf}
use Rattle.tv_machine.specs.ReportEvents.{intact_at}
use Rattle.tv_machine.specs.State.{file_at}
use Rattle.tv_catalog.proofs.SharedLaws.{words_len}
use Rattle.tv_store.proofs.Asking.{kept_by_files}
use Rattle.tv_store.proofs.Holding.{same_holds}
use Rattle.tv_store.proofs.ReportEvents.{held_intact}
use Rattle.tv_store.proofs.ValidatedFiles.{report, report_damaged, shorter, short_line}
use Rattle.tv_store.specs.FileCalls.{intact_in}
use Rattle.tv_store.specs.Kept.{kept_of}
use Rattle.tv_store.specs.Performing.{FilesHold}
use Rattle.tv_managed.specs.TrackLaws.{keeps_then}
use Rattle.tv_store.proofs.perform.find_damaged.Goals as goal

pub loop-name-preserved : goal.loop-name-preserved
loop-name-preserved g c =
    let D = g.O.Directory in
    let so_far = c.loop-name.invariant in
    let name = c.in-Some.name in
    let rest = into_iter_items c.next.new.self in
    let damaged = c.loop-name.damaged.items in
    let files = c.loop-name.files in
    let here : into_iter_items c.loop-name.name-iterator ≡ name ∷ rest = c.in-Some.ensures.steps.0 in
    let more : c.push_reserved.new.self.items ≡ damaged ++ name ∷ [] = c.push_reserved.ensures.items in
    let small : words_len damaged + words_len (name ∷ rest) ≤ words_len c.args.names.items = subst (λ (ns : List (List ℕ)). words_len damaged + words_len ns ≤ words_len c.args.names.items) here so_far.short in
    record {
      next = tt;
      finite = tt;
      found = λ tells s held are.
          let file : IsFileOf name = (subst (AllByRecursion IsFileOf) here (so_far.each are)).0 in
          let now : FilesHold D files s = same_holds (D.view c.args.files.now.outside).reads (D.view files.outside).reads (kept_of s.catalog c.args.files.now) (kept_of s.catalog files) s (so_far.frame.managed.below.content tells) (kept_by_files s.catalog so_far.frame) held in
          let answer : c.in_ok-is_intact.field-0 ≡ intact_in ((D.view files.outside).reads name) (at files.open_files name) (has files.left name) = c.in_ok-is_intact.ensures.answer tells in
          let known : intact_in ((D.view files.outside).reads name) (at files.open_files name) (has files.left name) ≡ intact_at (file_at s name) = held_intact (D.view files.outside).reads (kept_of s.catalog files) s name now file in
          let said : intact_at (file_at s name) ≡ Some false = sym known ∙ sym answer ∙ c.in-Some-false.is ∙ ap (λ (b : Bool). Some b) c.in-Some-false.field-0-test in
          ap (λ (ds : List (List ℕ)). report s ds rest) more ∙ sym (report_damaged s damaged rest name said) ∙ ap (report s damaged) (sym here) ∙ so_far.found tells s held are;
      each = λ are. (subst (AllByRecursion IsFileOf) here (so_far.each are)).1;
      among = first_of (search rules, grind (arith, common_steps));
      short = subst (λ (ds : List (List ℕ)). words_len ds + words_len rest ≤ words_len c.args.names.items) (sym more) (shorter damaged rest c.args.names.items name small);
      room = first_of (search rules, grind (arith, common_steps));
      frame = first_of (search rules, grind (arith, common_steps));
      images = λ t. keeps_then (so_far.images t) (c.in_ok-is_intact.ensures.images t);
      quiet = first_of (search rules, grind (arith, common_steps));
    }

pub returns-clause-gives : goal.returns-clause-gives
returns-clause-gives g c =
    let so_far = c.loop-name.invariant in
    let damaged = c.loop-name.damaged.items in
    let none : into_iter_items c.loop-name.name-iterator ≡ [] = nil_from_length (into_iter_items c.loop-name.name-iterator) (omega (arith, c.in-None.ensures.steps.0)) in
    inl (damaged, short_line damaged c.args.names.items (subst (λ (ns : List (List ℕ)). words_len damaged + words_len ns ≤ words_len c.args.names.items) none so_far.short), refl)

pub returns-in_err-is_intact-clause-images : goal.returns-in_err-is_intact-clause-images
returns-in_err-is_intact-clause-images g c t = keeps_then (c.loop-name.invariant.images t) (c.in_err-is_intact.ensures.images t)

pub returns-clause-images : goal.returns-clause-images
returns-clause-images g c t = c.loop-name.invariant.images t

pub loop-name-preserved-then-this : goal.loop-name-preserved-then-this
loop-name-preserved-then-this g c = record {
  next = tt;
  finite = tt;
  found = first_of (search rules, grind (arith, common_steps));
  each = first_of (search rules, grind (arith, common_steps));
  among = first_of (search rules, grind (arith, common_steps));
  short = first_of (search rules, grind (arith, common_steps));
  room = first_of (search rules, grind (arith, common_steps));
  frame = first_of (search rules, grind (arith, common_steps));
  images = λ t. keeps_then (c.loop-name.invariant.images t) (c.in_ok-is_intact.ensures.images t);
  quiet = first_of (search rules, grind (arith, common_steps));
}
