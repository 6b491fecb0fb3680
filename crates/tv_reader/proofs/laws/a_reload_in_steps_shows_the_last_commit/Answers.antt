use Rattle.tv_managed.specs.Collecting.{meta_lock_name}
use Rattle.tv_reader.specs.ReaderStates.{seen}
use Rattle.tv_reader.proofs.Counting.{of_files_read, of_noted, shows_read}
use Rattle.tv_reader.proofs.laws.a_reload_in_steps_shows_the_last_commit.Goals as goal

pub returns-clause-commit : goal.returns-clause-commit
returns-clause-commit g c =
    let noted = c.in_ok-opstamp.ensures.notes in
    let read = c.in_ok-reload_open.ensures.read in
    let is = of_noted (seen c.reload_lock.new.self) (seen c.args.reader.now) noted.0 noted.1 meta_lock_name _ noted.4 read.2 in
    let shown = of_files_read (seen c.reload_open.new.self) (seen c.reload_lock.new.self) read.0 _ read.3 c.in_ok-reload_publish.ensures.ok in
    (noted.0, noted.1, noted.2, noted.3, shows_read (seen c.reload_publish.new.self) (seen c.reload_open.new.self) read.0 noted.1 shown.0 is.commit_is)
