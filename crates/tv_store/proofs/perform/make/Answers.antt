use Rattle.std.proofs.Common.{rules, inl, inr, refl, [], Ok}
use Rattle.tv_store.proofs.FilesHeld.{file_made, name_taken, short_opened, short_same}
use Rattle.tv_store.proofs.Performing.{on_one_file}
use Rattle.tv_formats.proofs.Results.{no_answer}
use Rattle.tv_store.proofs.Durable.{keeps_all}
use Rattle.tv_store.proofs.DurableFiles.{made_keeps, made_stored}
use Rattle.tv_catalog.specs.declared.action.Reply.TheVariants as replies
use Rattle.tv_store.proofs.perform.make.Goals as goal

pub returns-then-branch-clause-performs : goal.returns-then-branch-clause-performs
returns-then-branch-clause-performs g c =
    let D = g.O.Directory in
    let old = c.args.files.now in
    let new = c.open.new.self in
    let opens = c.in_ok-open.ensures.opened c.if-branch.true in
    on_one_file D _ old new _ c.args.name c.requires (inl refl)
    (λ tells s h whole suits. file_made D old new s c.args.name c.requires.file c.open.ensures.frame.below.watched [] h tells c.open.ensures.frame.form c.open.ensures.frame.collections opens)
    c.open.ensures.others (λ bound short. short_same bound 0 new.open_files new.open_files refl (short_opened bound old.open_files new.open_files c.args.name opens.open_files short)) (search rules) c.open.ensures.frame (λ spent. spent) (λ takes. takes, tt) (λ only. only) c.open.ensures.frame.below.watched refl

pub returns-in_err-open-clause-performs : goal.returns-in_err-open-clause-performs
returns-in_err-open-clause-performs g c =
    let D = g.O.Directory in
    let old = c.args.files.now in
    let new = c.open.new.self in
    on_one_file D _ old new _ c.args.name c.requires (search rules) (λ tells s h whole suits. search rules) c.open.ensures.others
    (λ bound short. short_same bound 0 _ new.open_files c.in_err-open.ensures.kept short) (search rules) c.open.ensures.frame (λ spent. spent) (λ takes. takes, tt) (λ only. only) c.open.ensures.frame.below.watched refl

pub returns-else-branch-clause-performs : goal.returns-else-branch-clause-performs
returns-else-branch-clause-performs g c =
    let D = g.O.Directory in
    let old = c.args.files.now in
    let new = c.open.new.self in
    let finds = c.in_ok-open.ensures.found c.if-branch.false in
    on_one_file D _ old new _ c.args.name c.requires (inr refl)
    (λ tells s h whole suits. name_taken D old new s c.args.name c.requires.file c.open.ensures.frame.below.watched [] h tells whole suits c.open.ensures.frame.form c.open.ensures.frame.collections finds)
    c.open.ensures.others (λ bound short. short_same bound 0 _ new.open_files finds.open_files short) (search rules) c.open.ensures.frame (λ spent. spent) (λ takes. takes, tt) (λ only. only) c.open.ensures.frame.below.watched refl

pub returns-then-branch-clause-images : goal.returns-then-branch-clause-images
returns-then-branch-clause-images g c tells s h whole suits can d =
    made_stored g.O.Directory c.args.files.now s (g.met.O.Directory.stands c.args.files.now.outside tells) h d c.args.name c.open.new.self (Ok replies.Done) c.requires.file c.open.ensures.frame.form (c.open.ensures.safe tells) (made_keeps g.O.Directory c.args.files.now s (g.met.O.Directory.stands c.args.files.now.outside tells) h d c.args.name c.requires.file ((c.in_ok-open.ensures.opened c.if-branch.true).makes (g.met.O.Directory.tells_more tells)).absent)

pub returns-else-branch-clause-images : goal.returns-else-branch-clause-images
returns-else-branch-clause-images g c tells s h whole suits can d =
    made_stored g.O.Directory c.args.files.now s (g.met.O.Directory.stands c.args.files.now.outside tells) h d c.args.name c.open.new.self (Ok replies.Taken) c.requires.file c.open.ensures.frame.form (c.open.ensures.safe tells) (keeps_all s)

pub returns-in_err-open-clause-images : goal.returns-in_err-open-clause-images
returns-in_err-open-clause-images g c tells s h whole suits can d =
    made_stored g.O.Directory c.args.files.now s (g.met.O.Directory.stands c.args.files.now.outside tells) h d c.args.name c.open.new.self c.from_residual.result c.requires.file c.open.ensures.frame.form (c.open.ensures.safe tells) (no_answer c.from_residual.result _ c.from_residual.ensures.0)
