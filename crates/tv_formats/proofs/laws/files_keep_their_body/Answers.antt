use Rattle.tv_formats.proofs.Bodies.{body_of_good, body_of_sealed, one_footer, sealed_has_body}
use Rattle.tv_formats.proofs.Framing.{found_framed, framed_found}
use Rattle.tv_formats.proofs.laws.files_keep_their_body.Goals as goal

pub returns : goal.returns
returns c = record {
  has_body = sealed_has_body;
  sealed = body_of_sealed;
  good = body_of_good;
  one = λ bytes first second body other h k. one_footer bytes first second body other h k;
  found = framed_found;
  framed = found_framed;
}
