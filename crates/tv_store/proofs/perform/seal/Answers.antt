use Rattle.std.proofs.Common.{rules, [], refl, ◌∙◌}
use Rattle.tv_formats.specs.Names.{at}
use Rattle.tv_store.proofs.FilesHeld.{file_sealed, short_closed, short_same, some_body, written_is}
use Rattle.tv_store.proofs.Performing.{as_made, on_one_file}
use Rattle.tv_machine.specs.State.{file_at}
use Rattle.tv_store.proofs.DurableFiles.{sealed_stored, unsealed_stored}
use Rattle.tv_store.proofs.perform.seal.Goals as goal

pub returns-in_err-seal-clause-performs : goal.returns-in_err-seal-clause-performs
returns-in_err-seal-clause-performs g c =
    let D = g.O.Directory in
    let old = c.args.files.now in
    let new = c.seal.new.self in
    on_one_file D _ old new _ c.args.name c.requires.name (search rules) (λ tells s h whole suits. search rules) (λ tells n other list. c.seal.ensures.others tells n other)
    (λ bound short. short_same bound 0 _ new.open_files c.seal.ensures.open_files (short_closed bound old.open_files _ c.args.name refl short)) (search rules) (as_made D c.seal.ensures.rest.frame) (λ spent. spent) (λ takes. takes, tt) (λ only. only) c.seal.ensures.rest.frame.below.watched refl

pub returns-clause-performs : goal.returns-clause-performs
returns-clause-performs g c =
    let D = g.O.Directory in
    let old = c.args.files.now in
    let new = c.seal.new.self in
    let it = some_body (at old.open_files c.args.name) c.requires.open in
    on_one_file D _ old new _ c.args.name c.requires.name refl
    (λ tells s h whole suits. file_sealed D old new s c.args.name c.requires.name.file c.seal.ensures.rest.frame.below.watched [] h it.0 it.1 (c.in_ok-seal.ensures.sealed tells it.0 it.1) c.seal.ensures.rest.frame c.seal.ensures.open_files c.seal.ensures.closed)
    (λ tells n other list. c.seal.ensures.others tells n other)
    (λ bound short. short_same bound 0 _ new.open_files c.seal.ensures.open_files (short_closed bound old.open_files _ c.args.name refl short)) (search rules) (as_made D c.seal.ensures.rest.frame) (λ spent. spent) (λ takes. takes, tt) (λ only. only) c.seal.ensures.rest.frame.below.watched refl

pub returns-clause-images : goal.returns-clause-images
returns-clause-images g c tells s h whole suits can d =
    let name = c.args.name in
    let it = some_body (at c.args.files.now.open_files name) c.requires.open in
    let is_open = written_is (file_at s name) ((g.O.Directory.view c.args.files.now.outside).reads name) (at c.args.files.now.open_files name) (h.files name c.requires.name.file) ∙ it.1 in
    sealed_stored g.O.Directory c.args.files.now s (g.met.O.Directory.stands c.args.files.now.outside tells) h d name it.0 c.seal.new.self c.requires.name.file is_open tt c.seal.ensures.rest.frame.form (c.in_ok-seal.ensures.safe tells it.0 it.1)

pub returns-in_err-seal-clause-images : goal.returns-in_err-seal-clause-images
returns-in_err-seal-clause-images g c tells s h whole suits can d =
    let name = c.args.name in
    let it = some_body (at c.args.files.now.open_files name) c.requires.open in
    let is_open = written_is (file_at s name) ((g.O.Directory.view c.args.files.now.outside).reads name) (at c.args.files.now.open_files name) (h.files name c.requires.name.file) ∙ it.1 in
    unsealed_stored g.O.Directory c.args.files.now s (g.met.O.Directory.stands c.args.files.now.outside tells) h d name it.0 c.seal.new.self c.requires.name.file is_open c.seal.result c.from_residual.result c.from_residual.ensures.0 (c.seal.ensures.safe tells it.0 it.1)
