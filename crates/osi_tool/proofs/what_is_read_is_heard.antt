-- What is read piece by piece is heard: for `hear_all` and `judgement_by`.
use Rattle.std.proofs.Common.{ℕ, ◌<◌, ◌≤◌, ◌+◌, Option, Some, None, List, ◌++◌, length, take, subst, arith}
use Rattle.std.proofs.lemmas.List.{length-append, length-take}
use Rattle.std.specs.Io.KnownBytes.{Consumes}
use Rattle.osi_report.specs.Hearing.{IsHeard}
use Rattle.osi_report.specs.declared.hearing.Hearing.{Hearing}
use Rattle.osi_tool.proofs.reads_one_after_the_other_read_all.{consumes-append}

-- so many octets were read, or more
pub record IsReading (old now : Option (List ℕ)) (turns : ℕ) : Type 0 where
  pub taken : List ℕ
  pub consumes : Consumes old now taken
  pub most : turns ≤ length taken

-- if a hearing, as it was at first, is to hear all that the reader gives, it has now heard all but what the reader has left
abbrev pub HasHeard : (first now : Hearing) → Option (List ℕ) → Option (List ℕ) → Type 0
HasHeard first h None now = Unit {0}
HasHeard first h (Some whole) None = ⊥
HasHeard first h (Some whole) (Some rest) = IsHeard first whole whole → IsHeard h whole rest

pub heard_piece : (first old new : Hearing) (all now later : Option (List ℕ)) (piece : List ℕ) → HasHeard first old all now
    → Consumes now later piece → ((whole more : List ℕ) → IsHeard old whole (piece ++ more) → IsHeard new whole more)
    → HasHeard first new all later
heard_piece first old new None now later piece h k f = tt
heard_piece first old new (Some w) None later piece h k f = absurd h
heard_piece first old new (Some w) (Some r) None piece h k f = absurd k
heard_piece first old new (Some w) (Some r) (Some s) piece h k f = λ a. f w s (subst (IsHeard old w) k (h a))

pub reading_more : (old now later : Option (List ℕ)) (turns count : ℕ) (piece : List ℕ) → 0 < count → count ≤ length piece
    → IsReading old now turns → Consumes now later (take count piece) → IsReading old later (turns + 1)
reading_more old now later turns count piece some within h k = record {
  taken = h.taken ++ take count piece;
  consumes = consumes-append old now later h.taken (take count piece) h.consumes k;
  most = omega (arith, length-append h.taken (take count piece), length-take count piece, h.most);
}
