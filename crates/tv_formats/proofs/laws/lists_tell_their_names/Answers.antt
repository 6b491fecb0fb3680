use Rattle.tv_formats.proofs.ListTexts.{list_one, written_is_list}
use Rattle.tv_formats.proofs.laws.lists_tell_their_names.Goals as goal

pub returns : goal.returns
returns c = record { written = written_is_list; one = list_one }
