use Rattle.std.proofs.Common.{rules, refl, [], ◌≡◌, ◌++◌, List, ℕ, Some, length, option_map, subst, sym, ap, Ok}
use Rattle.std.specs.BTreeMap.{is_at}
use Rattle.std.specs.Map.{set_value}
use Rattle.tv_formats.specs.Names.{at, byte_cmp}
use Rattle.tv_store.proofs.FilesHeld.{bytes_added, short_closed, short_same, short_written, some_body}
use Rattle.tv_store.proofs.Performing.{as_made, on_one_file}
use Rattle.tv_formats.proofs.Results.{no_answer}
use Rattle.tv_machine.specs.FileEvents.{written_to}
use Rattle.tv_machine.specs.State.{file_at}
use Rattle.tv_store.proofs.DurableFiles.{added_stored, wrote_keeps}
use Rattle.tv_catalog.specs.declared.action.Reply.TheVariants as replies
use Rattle.tv_store.proofs.perform.append.Goals as goal

pub returns-in_err-write-clause-performs : goal.returns-in_err-write-clause-performs
returns-in_err-write-clause-performs g c =
    let D = g.O.Directory in
    let old = c.args.files.now in
    let new = c.write.new.self in
    on_one_file D _ old new _ c.args.name c.requires.name (search rules) (λ tells s h whole suits. search rules) (λ tells n other list. c.write.ensures.others tells n other)
    (λ bound short. short_same bound (length c.args.bytes.now) _ new.open_files c.in_err-write.ensures.closed (short_closed bound old.open_files _ c.args.name refl short)) (search rules) (as_made D c.write.ensures.rest.frame) (λ spent. spent) (λ takes. takes, tt) (λ only. only) c.write.ensures.rest.frame.below.watched refl

pub returns-clause-performs : goal.returns-clause-performs
returns-clause-performs g c =
    let D = g.O.Directory in
    let old = c.args.files.now in
    let new = c.write.new.self in
    let name = c.args.name in
    let it = some_body (at old.open_files name) c.requires.open.0 in
    let puts : (body : List ℕ) → at old.open_files name ≡ Some body → new.open_files ≡ set_value (is_at (byte_cmp name)) old.open_files (body ++ c.args.bytes.now) =
    λ body is. subst (λ bs. new.open_files ≡ set_value (is_at (byte_cmp name)) old.open_files (body ++ bs)) c.as_slice.ensures (c.in_ok-write.ensures.written body is) in
    on_one_file D _ old new _ name c.requires.name refl
    (λ tells s h whole suits. bytes_added D old new s name c.requires.name.file c.write.ensures.rest.frame.below.watched [] h it.0 it.1 c.args.bytes (c.write.ensures.others tells) (c.in_ok-write.ensures.there tells) c.write.ensures.rest.frame (puts it.0 it.1))
    (λ tells n other list. c.write.ensures.others tells n other)
    (λ bound short. short_written bound (length it.0) c.args.bytes.now old.open_files new.open_files name (sym (ap (option_map length) it.1)) puts short) (search rules) (as_made D c.write.ensures.rest.frame) (λ spent. spent) (λ takes. takes, tt) (λ only. only) c.write.ensures.rest.frame.below.watched refl

pub returns-clause-images : goal.returns-clause-images
returns-clause-images g c tells s h whole suits can d =
    added_stored g.O.Directory c.args.files.now s (g.met.O.Directory.stands c.args.files.now.outside tells) h d c.args.name c.args.bytes c.write.new.self (Ok replies.Done) c.write.ensures.rest.frame.form (c.write.ensures.safe tells) (wrote_keeps s c.args.name c.args.bytes.now (written_to (file_at s c.args.name)) refl)

pub returns-in_err-write-clause-images : goal.returns-in_err-write-clause-images
returns-in_err-write-clause-images g c tells s h whole suits can d =
    added_stored g.O.Directory c.args.files.now s (g.met.O.Directory.stands c.args.files.now.outside tells) h d c.args.name c.args.bytes c.write.new.self c.from_residual.result c.write.ensures.rest.frame.form (c.write.ensures.safe tells) (no_answer c.from_residual.result _ c.from_residual.ensures.0)
