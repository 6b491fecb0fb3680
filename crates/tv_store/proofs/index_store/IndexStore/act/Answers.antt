use Rattle.std.proofs.Common.{◌≡◌, ◌∙◌, List, ℕ, Some, Err, sym, ap, subst}
use Rattle.std.specs.Prelude.{option_map}
use Rattle.std.proofs.lemmas.Result.{err_from_is_err_and}
use Rattle.tv_machine.specs.Machine.{catalog_step}
use Rattle.tv_machine.specs.State.{Catalog, StepResult}
use Rattle.tv_device.specs.Images.{KeepsDisk}
use Rattle.tv_device.specs.View.{OnlyReads}
use Rattle.tv_store.specs.Acting.{Acts}
use Rattle.tv_store.specs.Applying.{AsksNoFile}
use Rattle.tv_catalog.specs.Exhausted.{SpendsNumber}
use Rattle.tv_catalog.specs.Catalogs.{CatalogCause}
use Rattle.tv_store.specs.Durable.{ActsSafely, IsDurable, store_files}
use Rattle.tv_store.specs.Kept.{IsHeld, Standing, kept_of}
use Rattle.tv_store.proofs.ActsPlanned.{store_of}
use Rattle.tv_store.proofs.DurableActs.{told_acts, unplanned_acts}
use Rattle.tv_store.proofs.Acting.{acts_known, acts_unknown, asks_known, asks_unknown}
use Rattle.tv_store.proofs.BusyCatalogs.{busy_stays}
use Rattle.tv_store.proofs.index_store.IndexStore.act.Goals as goal

pub returns-in_err-answer-clause-acts : goal.returns-in_err-answer-clause-acts
returns-in_err-answer-clause-acts g c =
    let D = g.O.Directory in
    let event = c.args.event.now in
    let inside = c.self.inside in
    let error = c.in_err-answer.field-0.0 in
    let same = ap (λ (catalog : Catalog). record { kept = kept_of catalog inside.files; outside = inside.files.outside; standing = record { is_open = inside.is_open } }) c.in_err-answer.ensures.kept ∙ c.self.view_is in
    let e = err_from_is_err_and c.from_residual.result c.from_residual.ensures.1 in
    rw (e.1, e.2) (subst (λ v. Acts D c.args.self.now v event (Err error)) (sym same)
    (acts_unknown D c.args.self.now event error (subst (λ v. CatalogCause (SpendsNumber v.kept.catalog event) error) c.self.view_is c.in_err-answer.ensures.faults.cause)))

pub returns-in-Some-clause-acts : goal.returns-in-Some-clause-acts
returns-in-Some-clause-acts g c =
    let event = c.args.event.now in
    let inside = c.self.inside in
    let same = c.self.view_is in
    let known : StepResult Catalog = (c.in-Some.answer, c.act.new.self) in
    let steps : catalog_step inside.catalog inside.files.managed event ≡ Some known =
    subst (λ (names : List (List ℕ)). catalog_step inside.catalog names event ≡ Some known) c.managed.ensures.names
    (sym c.in_ok-answer.ensures.step ∙ ap (option_map (λ (answer : List ℕ). (answer, c.act.new.self))) c.in-Some.is) in
    acts_known g.O.Directory c.args.self.now (record { kept = kept_of c.act.new.self inside.files; outside = inside.files.outside; standing = record { is_open = inside.is_open } }) c.told.new.self event known c.told.result
    (subst (λ v. catalog_step v.kept.catalog v.kept.managed event ≡ Some known) same steps) c.in_ok-answer.ensures.fits (subst (λ v. SpendsNumber v.kept.catalog event → ⊥) same c.in_ok-answer.ensures.faults.fits)
    (ap (λ v. record v.kept { catalog = c.act.new.self }) same) (ap (λ v. v.outside) same) (ap (λ v. v.standing) same)
    c.told.ensures.answer c.told.ensures.room c.told.ensures.asks.faults c.told.ensures.asks.frame

pub returns-in_err-answer-clause-alone : goal.returns-in_err-answer-clause-alone
returns-in_err-answer-clause-alone g c some =
    let D = g.O.Directory in
    let inside = c.self.inside in
    let error = c.in_err-answer.field-0.0 in
    let same = ap (λ (catalog : Catalog). record { kept = kept_of catalog inside.files; outside = inside.files.outside; standing = record { is_open = inside.is_open } }) c.in_err-answer.ensures.kept ∙ c.self.view_is in
    let e = err_from_is_err_and c.from_residual.result c.from_residual.ensures.1 in
    rw (e.1, e.2) (subst (λ v. AsksNoFile (OnlyReads D.told) D c.args.self.now v (Err error)) (sym same) (asks_unknown D (SpendsNumber inside.catalog c.args.event.now) c.args.self.now error c.in_err-answer.ensures.faults.cause))

pub returns-in-Some-clause-alone : goal.returns-in-Some-clause-alone
returns-in-Some-clause-alone g c some =
    let inside = c.self.inside in
    asks_known g.O.Directory c.args.self.now (record { kept = kept_of c.act.new.self inside.files; outside = inside.files.outside; standing = record { is_open = inside.is_open } }) c.told.new.self c.told.result
    (ap (λ v. v.outside) c.self.view_is) c.told.ensures.asks.faults c.told.ensures.asks.frame.below

pub returns-in_err-answer-clause-images : goal.returns-in_err-answer-clause-images
returns-in_err-answer-clause-images g c tells s h whole durable =
    let D = g.O.Directory in
    let inside = c.self.inside in
    let error = c.in_err-answer.field-0.0 in
    let standing : Standing = record { is_open = inside.is_open } in
    let same = ap (λ (catalog : Catalog). store_of catalog inside.files standing) c.in_err-answer.ensures.kept ∙ c.self.view_is in
    let e = err_from_is_err_and c.from_residual.result c.from_residual.ensures.1 in
    rw (e.1, e.2)
    (subst (λ v. ActsSafely {A = List ℕ} D c.args.self.now v c.args.event.now s (Err error)) (sym same)
    (subst (λ v. IsHeld D v s → IsDurable D (store_files v) s → ActsSafely {A = List ℕ} D v v c.args.event.now s (Err error)) c.self.view_is
    (λ held d. unplanned_acts D inside.catalog standing inside.files c.args.event.now s held d error) h durable))

pub returns-in-Some-clause-images : goal.returns-in-Some-clause-images
returns-in-Some-clause-images g c tells s h whole durable =
    let D = g.O.Directory in
    let event = c.args.event.now in
    let inside = c.self.inside in
    let same = c.self.view_is in
    let known : StepResult Catalog = (c.in-Some.answer, c.act.new.self) in
    let steps : catalog_step inside.catalog inside.files.managed event ≡ Some known =
    subst (λ (names : List (List ℕ)). catalog_step inside.catalog names event ≡ Some known) c.managed.ensures.names
    (sym c.in_ok-answer.ensures.step ∙ ap (option_map (λ (answer : List ℕ). (answer, c.act.new.self))) c.in-Some.is) in
    let asks = c.told.ensures.asks.frame in
    told_acts D c.args.self.now c.told.new.self event known c.told.result s (g.met.O.Directory.tells_more tells) h durable
    (subst (λ v. catalog_step v.kept.catalog v.kept.managed event ≡ Some known) same steps) c.in_ok-answer.ensures.fits
    (asks.kept ∙ ap (λ v. record v.kept { catalog = c.act.new.self }) same)
    (subst (λ v. OnlyReads D.told (D.view v.outside) (D.view c.told.new.self.outside)) same asks.below)
    (subst (λ v. KeepsDisk (D.disk v.outside) (D.disk c.told.new.self.outside)) same (c.told.ensures.images tells)) (g.met.O.Directory.stands c.told.new.self.outside tells)

pub invariant_of-self-in-Some : goal.invariant_of-self-in-Some
invariant_of-self-in-Some g c =
    let event = c.args.event.now in
    let inside = c.self.inside in
    let known : StepResult Catalog = (c.in-Some.answer, c.act.new.self) in
    let steps : catalog_step inside.catalog inside.files.managed event ≡ Some known =
    subst (λ (names : List (List ℕ)). catalog_step inside.catalog names event ≡ Some known) c.managed.ensures.names
    (sym c.in_ok-answer.ensures.step ∙ ap (option_map (λ (answer : List ℕ). (answer, c.act.new.self))) c.in-Some.is) in
    (c.self.invariant.0, c.self.invariant.1 ∙ sym (busy_stays inside.catalog inside.files.managed event known steps))
