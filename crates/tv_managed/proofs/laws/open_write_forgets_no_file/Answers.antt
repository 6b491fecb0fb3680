use Rattle.tv_formats.proofs.ListedImages.{images_list}
use Rattle.tv_managed.proofs.laws.open_write_forgets_no_file.Goals as goal

pub returns : goal.returns
returns g c tells was x image from upto left = (images_list (((c.open_write.ensures.safe tells).tracks was).moments.each x from upto)).each image left
