use Rattle.tv_framing.proofs.FooterEnds.{exactly}
use Rattle.tv_framing.proofs.footer.Footer.extract_footer.Goals as goal

pub returns-clause-outside : goal.returns-clause-outside
returns-clause-outside c = exactly _ c.args.file c.framed.result c.framed.ensures
