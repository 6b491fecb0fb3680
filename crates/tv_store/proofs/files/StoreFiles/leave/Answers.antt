use Rattle.std.proofs.Common.{◌&&◌, ◌||◌, is_some, ap, ◌∙◌}
use Rattle.std.specs.BTreeMap.{is_at}
use Rattle.std.specs.BTreeSet.{insert_key}
use Rattle.std.specs.Vec.Iter.{into_iter_items}
use Rattle.tv_formats.specs.Names.{byte_cmp, has, at}
use Rattle.tv_store.proofs.Removals.{others_stay, one_closed, one_left, none_left, lens_cut}
use Rattle.tv_store.proofs.files.StoreFiles.leave.Goals as goal

pub loop-name-preserved-in_ok-insert : goal.loop-name-preserved-in_ok-insert
loop-name-preserved-in_ok-insert g c =
    let inv = c.loop-name.invariant in
    let now = c.loop-name.self in
    let name = c.in-Some.name in
    let done = c.abandon.ensures in
    let whole = c.self.view_is ∙ done.abandoned in
    let closed = ap (λ v. at v.open_files name) c.self.view_is ∙ done.closed in
    record {
      next = tt;
      finite = tt;
      open_files = λ n. one_closed now.open_files _ name (into_iter_items c.loop-name.name-iterator) (into_iter_items c.next.new.self) n _ c.in-Some.ensures.steps.0 (ap (λ v. v.open_files) whole) closed (inv.open_files n);
      left = λ n.
          one_left now.left c.insert.new.self.keys now.open_files _ name (into_iter_items c.loop-name.name-iterator) (into_iter_items c.next.new.self) n c.abandon.result _ c.in-Some.ensures.steps.0
          done.found c.if-abandon.true (c.in_ok-insert.ensures.keys ∙ ap (λ v. insert_key byte_cmp v.left name) whole) (ap (λ v. v.open_files) whole) closed (inv.left n);
      outside = ap (λ v. v.outside) whole ∙ inv.outside;
      form = ap (λ v. v.form) whole ∙ inv.form;
      managed = ap (λ v. v.managed) whole ∙ inv.managed;
      collections = ap (λ v. v.collections) whole ∙ inv.collections;
      locked = ap (λ v. v.locked) whole ∙ inv.locked;
      lens = λ bound h. lens_cut bound now.open_files _ (is_at (byte_cmp name)) (ap (λ v. v.open_files) whole) (inv.lens bound h);
    }

pub returns-in_err-insert-clause-lens : goal.returns-in_err-insert-clause-lens
returns-in_err-insert-clause-lens g c bound h =
    lens_cut bound c.loop-name.self.open_files _ (is_at (byte_cmp c.in-Some.name)) (ap (λ v. v.open_files) (c.self.view_is ∙ c.abandon.ensures.abandoned)) (c.loop-name.invariant.lens bound h)

pub loop-name-preserved : goal.loop-name-preserved
loop-name-preserved g c =
    let inv = c.loop-name.invariant in
    let now = c.loop-name.self in
    let name = c.in-Some.name in
    let done = c.abandon.ensures in
    record {
      next = tt;
      finite = tt;
      open_files = λ n. one_closed now.open_files c.abandon.new.self.open_files name (into_iter_items c.loop-name.name-iterator) (into_iter_items c.next.new.self) n _ c.in-Some.ensures.steps.0 (ap (λ v. v.open_files) done.abandoned) done.closed (inv.open_files n);
      left = λ n.
          ap (λ v. has v.left n || (has (into_iter_items c.next.new.self) n && is_some (at c.abandon.new.self.open_files n))) done.abandoned
          ∙ none_left now.left now.open_files c.abandon.new.self.open_files name (into_iter_items c.loop-name.name-iterator) (into_iter_items c.next.new.self) n c.abandon.result _ c.in-Some.ensures.steps.0
          done.found c.if-abandon.false (ap (λ v. v.open_files) done.abandoned) done.closed (inv.left n);
      outside = ap (λ v. v.outside) done.abandoned ∙ inv.outside;
      form = ap (λ v. v.form) done.abandoned ∙ inv.form;
      managed = ap (λ v. v.managed) done.abandoned ∙ inv.managed;
      collections = ap (λ v. v.collections) done.abandoned ∙ inv.collections;
      locked = ap (λ v. v.locked) done.abandoned ∙ inv.locked;
      lens = λ bound h. lens_cut bound now.open_files c.abandon.new.self.open_files (is_at (byte_cmp name)) (ap (λ v. v.open_files) done.abandoned) (inv.lens bound h);
    }

pub returns-in_err-insert-clause-others : goal.returns-in_err-insert-clause-others
returns-in_err-insert-clause-others g c =
    let inv = c.loop-name.invariant in
    let whole = c.self.view_is ∙ c.abandon.ensures.abandoned in
    others_stay _ c.args.self.now (ap (λ v. v.outside) whole ∙ inv.outside) (ap (λ v. v.form) whole ∙ inv.form) (ap (λ v. v.managed) whole ∙ inv.managed) (ap (λ v. v.collections) whole ∙ inv.collections) (ap (λ v. v.locked) whole ∙ inv.locked)

pub returns-clause-others : goal.returns-clause-others
returns-clause-others g c =
    let inv = c.loop-name.invariant in
    others_stay c.loop-name.self c.args.self.now inv.outside inv.form inv.managed inv.collections inv.locked
