use Rattle.tv_index.proofs.SavedSafely.{holds_no_other}
use Rattle.tv_index.proofs.laws.a_save_that_wants_memory_leaves_the_old_commit.Goals as goal

pub returns : goal.returns
returns g c tells = holds_no_other c.args.directory.now.1 c.args.text.now c.save_meta_text.result (c.save_meta_text.ensures.safe tells).states
