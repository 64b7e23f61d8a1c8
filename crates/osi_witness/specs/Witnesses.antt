-- What the script of a capture is.
use Rattle.std.specs.Prelude.{◌≡◌, ℕ, ◌≤◌, ◌⊎◌, List, [], length}
use Rattle.osi_listing.specs.Capture.{Captures}
use Rattle.osi_script.specs.Cutting.{lines_of}
use Rattle.osi_transcript.specs.Numbered.{numbered}
use Rattle.osi_transcript.specs.Playing.{Transcribes}

-- two ends play the script to its end
pub record IsPlayed (script : List ℕ) : Type 0 where
  pub lines : List ℕ
  pub transcribed : Transcribes (numbered 1 (lines_of script)) lines 0

-- the text is a capture, and the script is one of at most 16,777,216 octets that two ends play to its end, or there is none
pub record Witnesses (text script : List ℕ) (status : ℕ) : Type 0 where
  pub octets : List ℕ
  pub captured : Captures text octets
  pub short : length script ≤ 16777216
  pub played : IsPlayed script ⊎ ((script ≡ []) × (status ≡ 1))
