use Rattle.tv_formats.proofs.ListedImages.{images_list}
use Rattle.tv_managed.proofs.managed_directory.ManagedDirectory.images_list_their_files.Goals as goal

pub returns : goal.returns
returns g c = λ x image listed is. (images_list listed).each image is
