use Rattle.std.proofs.Common.{◌≡◌, [], ◌∷◌, ◌++◌, drop, ap, ◌∙◌}
use Rattle.tv_publishing.proofs.Steps.{publishes}
use Rattle.tv_publishing.proofs.publisher.publish_one.Goals as goal

pub publish_as-requires : goal.publish_as-requires
publish_as-requires g c next is =
    let one : drop c.append.new.self.behind c.append.new.self.log.items ≡ c.args.with.1 ∷ [] =
    c.in-Ok.ensures.pending ∙ ap (λ l. l ++ c.args.with.1 ∷ []) c.requires.idle in
    let state = rw one at is in
    publishes _ _ c.append.new.self.desk.shown.value next c.args.with.1 (ap (λ s. s.1) state)
    (ap (λ s. s.0) state) (rw c.append.ensures.desk c.requires.alone)
