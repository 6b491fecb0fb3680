-- The script that is generated.
use Rattle.std.specs.Prelude.{ℕ, zero, suc, ◌%◌, List, [], ◌∷◌, ◌++◌, codes}
use Rattle.std.specs.Int.{w128, to_be_bytes}
use Rattle.std.specs.List.{flat_map}
use Rattle.hex.specs.Hex.{encode_lower}
use Rattle.tv_formats.specs.declared.segment.SegmentComponent.{SegmentComponent}
use Rattle.tv_formats.specs.declared.segment.SegmentComponent.TheVariants.{Postings, Positions, FastFields, FieldNorms, Terms, Store}
use Rattle.tv_formats.specs.Segments.{extension}

-- the id of a number: its 32 hexadecimal digits
abbrev pub numbered_id : ℕ → List ℕ
numbered_id i = encode_lower (to_be_bytes w128 i)

-- a number as a byte, less what a byte can't count, in its two digits
abbrev pub numbered_byte : ℕ → List ℕ
numbered_byte i = encode_lower (i % 256 ∷ [])

-- a file is made, with one byte; it is named by the words after `open`
abbrev pub file_text : (file byte : List ℕ) → List ℕ
file_text file byte =
    codes "open " ++ file ++ codes "\nwrite " ++ file ++ codes " " ++ byte
    ++ codes "\nseal " ++ file ++ codes "\n"

-- the files of a segment that is generated, which has no deletes
abbrev pub generated_components : List SegmentComponent
generated_components = Postings ∷ Positions ∷ FastFields ∷ FieldNorms ∷ Terms ∷ Store ∷ []

-- a segment of one document is made, with its six files
abbrev pub segment_text : (id byte : List ℕ) → List ℕ
segment_text id byte =
    codes "segment " ++ id ++ codes "\n"
    ++ flat_map (λ c. file_text (id ++ codes " " ++ extension c) byte) generated_components
    ++ codes "docs " ++ id ++ codes " 1\n"

-- The segment of this number is committed, with the one before it, which is then released; and the files are
-- collected that nothing needs.
abbrev pub commit_text : ℕ → List ℕ
commit_text zero = codes "commit - " ++ numbered_id 0 ++ codes "\ngc\n"
commit_text (suc i) =
    codes "commit - " ++ numbered_id i ++ codes " " ++ numbered_id (suc i) ++ codes "\nrelease segment "
    ++ numbered_id i ++ codes "\ngc\n"

-- the script of so many commits
abbrev pub generated : ℕ → List ℕ
generated zero = []
generated (suc i) = generated i ++ segment_text (numbered_id i) (numbered_byte i) ++ commit_text i
