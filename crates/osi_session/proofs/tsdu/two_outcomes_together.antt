-- If one of two outcomes shows or sends something, both together do.
use Rattle.osi_session.proofs.Vocabulary.{is_none, Shown, Meaning, is_nil, arith, ◌≡◌, false, ◌&&◌, List, Option}

pub loud_reply : (shown : List Shown) (reply : Option Meaning) → is_none reply ≡ false → (is_nil shown && is_none reply) ≡ false
loud_reply shown reply h = grind arith
