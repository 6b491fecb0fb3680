use Rattle.std.proofs.Common.{ap}
use Rattle.tv_store.proofs.OpenFiles.{found_open, length_is, length_isnt, body_is, isnt_open}
use Rattle.tv_store.proofs.files_known.StoreFilesKnownFiles.body_len.Goals as goal

pub returns-in-Some : goal.returns-in-Some
returns-in-Some g c =
    let file = found_open g.O.Directory c.self.inside.index.directory.0 c.self.inside.files.entries c.args.name.now c.in-Some.file.now c.in-Some.ensures.value c.self.invariant.0 in
    length_is _ _ _ (body_is (λ w. (g.O.Directory.state_of w).written) c.self.inside.files.entries c.args.self.now.open_files c.args.name.now c.in-Some.file.now (ap (λ v. v.open_files) c.self.view_is) c.in-Some.ensures.value) file.len_is

pub returns-in-None : goal.returns-in-None
returns-in-None g c =
    length_isnt _ (isnt_open (λ w. (g.O.Directory.state_of w).written) c.self.inside.files.entries c.args.self.now.open_files c.args.name.now (ap (λ v. v.open_files) c.self.view_is) c.in-None.ensures.value)
