use Rattle.std.proofs.Common.{◌≡◌, ◌++◌, take, codes, string_bytes}
use Rattle.std.specs.List.{flat_map}
use Rattle.tv_formats.specs.Segments.{extension}
use Rattle.tv_replay.specs.Generated.{file_text}
use Rattle.tv_replay.proofs.generating.push_segment.Given as goal

abbrev pub invariant-loop-component : goal.invariant-loop-component
invariant-loop-component l = string_bytes l.script ≡ string_bytes l.fn.script ++ (codes "segment " ++ l.id ++ codes "\n" ++ flat_map (λ c. file_text (l.id ++ codes " " ++ extension c) l.byte) (take l.component-index l.component-items))
