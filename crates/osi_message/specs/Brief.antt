-- Messages of one unit with at most one parameter, of one octet, and without user data.
use Rattle.std.specs.Prelude.{Bool, true, false, []}
use Rattle.osi_message.specs.Meanings.{Meaning, GT, PT, MIP, MIA, FN, DN, NF, AB, AA}

abbrev pub is_brief : Meaning → Bool
is_brief (GT tokens) = true
is_brief (PT tokens []) = true
is_brief (FN []) = true
is_brief (DN []) = true
is_brief (NF []) = true
is_brief (AB bits []) = true
is_brief AA = true
is_brief _ = false

-- Messages whose TSDU is stored inline: brief ones, minor points that ask for their confirmation, and confirmations of
-- minor points, both without user data.
abbrev pub is_inline : Meaning → Bool
is_inline (MIP true number []) = true
is_inline (MIA number []) = true
is_inline m = is_brief m
