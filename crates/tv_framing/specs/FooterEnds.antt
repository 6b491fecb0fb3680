-- The end of a file that has a footer.
use Rattle.std.specs.Prelude.{ℕ, ◌≡◌, ◌≤◌, ◌<◌, ◌+◌, ◌^◌, List, ◌++◌, length, take, drop, slice_range}
use Rattle.tv_formats.specs.Footer.{four_bytes, footer_magic, stated}
use Rattle.tv_framing.specs.Footers.{last_four, stated_json}

-- the bytes end in eight that are these two numbers, and so many stand before them
pub record EndsIn (bytes : List ℕ) (front json magic : ℕ) : Type 0 where
  pub size : front + 8 ≡ length bytes
  pub text : drop front bytes ≡ four_bytes json ++ four_bytes magic
  pub json_small : json < 2 ^ 32
  pub magic_small : magic < 2 ^ 32

-- the JSON of the footer lies there, if it is one
pub record HasEnd (bytes : List ℕ) (start end : ℕ) : Type 0 where
  pub order : start ≤ end
  pub size : start + (stated bytes + 8) ≡ length bytes
  pub rest : end + 8 ≡ length bytes
  pub magic : last_four bytes ≡ four_bytes footer_magic
  pub short : stated bytes ≤ 50000
  pub json : slice_range bytes start end ≡ stated_json bytes
  pub long : length (slice_range bytes start end) ≡ stated bytes
  pub whole : bytes ≡ take start bytes
      ++ (slice_range bytes start end ++ (four_bytes (stated bytes) ++ four_bytes footer_magic))
