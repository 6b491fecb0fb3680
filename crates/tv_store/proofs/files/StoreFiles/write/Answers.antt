use Rattle.std.proofs.Common.{ap, ◌∙◌, length, ◌+◌, ◌<◌, ◌≡◌, arith, refl, sym, subst}
use Rattle.std.specs.BTreeMap.{is_at}
use Rattle.std.specs.Map.{remove_entry}
use Rattle.tv_formats.specs.Names.{byte_cmp}
use Rattle.tv_store.proofs.KnownFiles.{beside_there}
use Rattle.tv_store.proofs.OpenFiles.{still_files, left_files, found_open, set_open, with_open, written_open, must_be_open, body_is, same_body_is, bodies_set, bodies_left, cut_set, longer_fits, others_kept, there_is, more_is, AreFiles}
use Rattle.tv_managed.specs.Crashes.{ReadsSafely}
use Rattle.tv_store.specs.Kept.{names_below}
use Rattle.tv_store.proofs.files.StoreFiles.write.Goals as goal

pub unreachable-requires : goal.unreachable-requires
unreachable-requires g c = must_be_open (λ w. (g.O.Directory.state_of w).written) c.self.inside.files.entries c.args.self.now.open_files c.args.name.now _ (ap (λ v. v.open_files) c.self.view_is) c.in_default.ensures.value refl c.requires.is_open

pub write-requires-clause-opened : goal.write-requires-clause-opened
write-requires-clause-opened g c = (found_open g.O.Directory c.directory_mut.result.now.0 c.self.inside.files.entries c.args.name.now c.in-Some.file.now c.in-Some.ensures.value (subst (λ d. AreFiles g.O.Directory d c.self.inside.files.entries c.self.inside.known.keys) (sym c.directory_mut.ensures.value) c.self.invariant).0).opened_is

pub write-requires-clause-fits : goal.write-requires-clause-fits
write-requires-clause-fits g c = c.requires.fits (g.O.Directory.state_of c.in-Some.file.now.writer.writer).written (body_is (λ w. (g.O.Directory.state_of w).written) c.self.inside.files.entries c.args.self.now.open_files c.args.name.now c.in-Some.file.now (ap (λ v. v.open_files) c.self.view_is) c.in-Some.ensures.value)

pub overflow_add-file : goal.overflow_add-file
overflow_add-file g c =
    let file = found_open g.O.Directory c.directory_mut.result.now.0 c.self.inside.files.entries c.args.name.now c.in-Some.file.now c.in-Some.ensures.value (subst (λ d. AreFiles g.O.Directory d c.self.inside.files.entries c.self.inside.known.keys) (sym c.directory_mut.ensures.value) c.self.invariant).0 in
    let sum : c.in-Some.file.now.len + length c.args.bytes.now < 18446744073709551616 = longer_fits _ _ _ file.len_is (c.requires.fits (g.O.Directory.state_of c.in-Some.file.now.writer.writer).written (body_is (λ w. (g.O.Directory.state_of w).written) c.self.inside.files.entries c.args.self.now.open_files c.args.name.now c.in-Some.file.now (ap (λ v. v.open_files) c.self.view_is) c.in-Some.ensures.value)) in
    omega arith

pub invariant_of-self : goal.invariant_of-self
invariant_of-self g c =
    let D = g.O.Directory in
    let es = c.self.inside.files.entries in
    let whole = subst (λ d. AreFiles D d c.self.inside.files.entries c.self.inside.known.keys) (sym c.directory_mut.ensures.value) c.self.invariant in
    let file = found_open D c.directory_mut.result.now.0 es c.args.name.now c.in-Some.file.now c.in-Some.ensures.value whole.0 in
    let still =
    still_files D c.directory_mut.result.now c.write.new.self es c.self.inside.known.keys c.write.ensures.frame.below.frame.tells_none.deletes_none (ap (λ n. n.collections) c.write.ensures.frame.names)
    (λ tells. beside_there _ _ _ _ refl (c.write.ensures.touches.others tells) (λ some. c.write.ensures.touches.there tells (file.lives_is tells))) whole in
    with_open D c.write.new.self es _ c.self.inside.known.keys
    (set_open D c.write.new.self.0 es _ c.args.name.now (record { writer = c.write.new.writer; len = c.in-Some.file.now.len + length c.args.bytes.now })
    (c.get_mut.follows.holds (record { writer = c.write.new.writer; len = c.in-Some.file.now.len + length c.args.bytes.now })).0
    (written_open D c.directory_mut.result.now.0 c.write.new.self.0 c.args.name.now c.in-Some.file.now.writer c.write.new.writer c.in-Some.file.now.len c.args.bytes.now
    c.in-Ok.ensures.appends.ok c.in-Ok.ensures.hands_on.hands_back.ok c.in-Ok.ensures.hands_on.hands_back.lives c.in-Ok.ensures.appends.name c.in-Ok.ensures.hands_on.summed file) still.0) still

pub invariant_of-self-in-Err : goal.invariant_of-self-in-Err
invariant_of-self-in-Err g c =
    let D = g.O.Directory in
    let es = c.self.inside.files.entries in
    let test = is_at (byte_cmp c.args.name.now) in
    let whole = subst (λ d. AreFiles D d c.self.inside.files.entries c.self.inside.known.keys) (sym c.directory_mut.ensures.value) c.self.invariant in
    let file = found_open D c.directory_mut.result.now.0 es c.args.name.now c.in-Some.file.now c.in-Some.ensures.value whole.0 in
    let cut : c.take_out.new.map.entries ≡ remove_entry test es =
    c.take_out.ensures ∙ ap (remove_entry test) (c.get_mut.follows.holds (record { writer = c.write.new.writer; len = c.in-Some.file.now.len })).0 ∙ cut_set es test (record { writer = c.write.new.writer; len = c.in-Some.file.now.len }) in
    left_files D c.write.new.self es c.take_out.new.map.entries c.self.inside.known.keys test cut
    (still_files D c.directory_mut.result.now c.write.new.self es c.self.inside.known.keys c.write.ensures.frame.below.frame.tells_none.deletes_none (ap (λ n. n.collections) c.write.ensures.frame.names)
    (λ tells. beside_there _ _ _ _ refl (c.write.ensures.touches.others tells) (λ some. c.write.ensures.touches.there tells (file.lives_is tells))) whole)

pub returns-in-Ok-clause-written : goal.returns-in-Ok-clause-written
returns-in-Ok-clause-written g c body there =
    let same = same_body_is (λ w. (g.O.Directory.state_of w).written) c.self.inside.files.entries c.args.self.now.open_files c.args.name.now c.in-Some.file.now body (ap (λ v. v.open_files) c.self.view_is) c.in-Some.ensures.value there in
    bodies_set (λ w. (g.O.Directory.state_of w).written) c.self.inside.files.entries _ _ (is_at (byte_cmp c.args.name.now)) (record { writer = c.write.new.writer; len = c.in-Some.file.now.len + length c.args.bytes.now }) _
    (c.get_mut.follows.holds (record { writer = c.write.new.writer; len = c.in-Some.file.now.len + length c.args.bytes.now })).0 (ap (λ v. v.open_files) c.self.view_is) (more_is _ _ _ _ c.in-Ok.ensures.appends.ok same)

pub returns-in-Ok-clause-others : goal.returns-in-Ok-clause-others
returns-in-Ok-clause-others g c tells =
    let file = found_open g.O.Directory c.directory_mut.result.now.0 c.self.inside.files.entries c.args.name.now c.in-Some.file.now c.in-Some.ensures.value (subst (λ d. AreFiles g.O.Directory d c.self.inside.files.entries c.self.inside.known.keys) (sym c.directory_mut.ensures.value) c.self.invariant).0 in
    others_kept (λ d. (g.O.Directory.view d).reads) c.directory_mut.result.now.0 c.args.self.now.outside c.write.new.self.0 (g.O.Directory.state_of c.in-Some.file.now.writer.writer).name c.args.name.now (ap (λ d. d.0) c.directory_mut.ensures.value ∙ ap (λ v. v.outside) c.self.view_is) file.name_is (c.write.ensures.touches.others tells)

pub returns-in-Ok-clause-there : goal.returns-in-Ok-clause-there
returns-in-Ok-clause-there g c tells =
    let file = found_open g.O.Directory c.directory_mut.result.now.0 c.self.inside.files.entries c.args.name.now c.in-Some.file.now c.in-Some.ensures.value (subst (λ d. AreFiles g.O.Directory d c.self.inside.files.entries c.self.inside.known.keys) (sym c.directory_mut.ensures.value) c.self.invariant).0 in
    there_is (g.O.Directory.view c.write.new.self.0).reads _ _ file.name_is (c.in-Ok.ensures.touches.there tells (file.lives_is tells))

pub returns-in-Err-clause-closed : goal.returns-in-Err-clause-closed
returns-in-Err-clause-closed g c =
    let es = c.self.inside.files.entries in
    let test = is_at (byte_cmp c.args.name.now) in
    let cut : c.take_out.new.map.entries ≡ remove_entry test es =
    c.take_out.ensures ∙ ap (remove_entry test) (c.get_mut.follows.holds (record { writer = c.write.new.writer; len = c.in-Some.file.now.len })).0 ∙ cut_set es test (record { writer = c.write.new.writer; len = c.in-Some.file.now.len }) in
    bodies_left (λ w. (g.O.Directory.state_of w).written) es c.take_out.new.map.entries c.args.self.now.open_files test cut (ap (λ v. v.open_files) c.self.view_is)

pub returns-in-Err-clause-others : goal.returns-in-Err-clause-others
returns-in-Err-clause-others g c tells =
    let file = found_open g.O.Directory c.directory_mut.result.now.0 c.self.inside.files.entries c.args.name.now c.in-Some.file.now c.in-Some.ensures.value (subst (λ d. AreFiles g.O.Directory d c.self.inside.files.entries c.self.inside.known.keys) (sym c.directory_mut.ensures.value) c.self.invariant).0 in
    others_kept (λ d. (g.O.Directory.view d).reads) c.directory_mut.result.now.0 c.args.self.now.outside c.write.new.self.0 (g.O.Directory.state_of c.in-Some.file.now.writer.writer).name c.args.name.now (ap (λ d. d.0) c.directory_mut.ensures.value ∙ ap (λ v. v.outside) c.self.view_is) file.name_is (c.write.ensures.touches.others tells)

pub returns-in-Ok-clause-safe : goal.returns-in-Ok-clause-safe
returns-in-Ok-clause-safe g c tells = subst (λ d. ReadsSafely g.O.Directory d c.write.new.self) (c.directory_mut.ensures.value ∙ ap names_below c.self.view_is) (c.write.ensures.safe tells)

pub returns-in-Err-clause-safe : goal.returns-in-Err-clause-safe
returns-in-Err-clause-safe g c tells = subst (λ d. ReadsSafely g.O.Directory d c.write.new.self) (c.directory_mut.ensures.value ∙ ap names_below c.self.view_is) (c.write.ensures.safe tells)
