-- Whatever is done at a carrier, the units that it puts are written, each in a packet of its own.
-- For the course of a connection.
use Rattle.osi_blameless.proofs.ends.Vocabulary.{[], ap, append_assoc, arith, List, subst, sym, ℕ, ◌++◌, ◌∙◌, ◌≡◌, append-nil, refl}
use Rattle.osi_blameless.proofs.ends.Vocabulary.{Value, State as Carrier, packets, together_written, unit_written, Makes}
use Rattle.osi_blameless.specs.ends.Doing as doing
use Rattle.osi_blameless.proofs.ends.reading.what_is_written_is_read_again.{packets_joined}

pub makes_written : (old new : Carrier) (took put : List Value) → Makes old took put new →
    new.outgoing ≡ old.outgoing ++ packets put
makes_written _ _ _ _ (doing.takes v c fits) = unit_written v c
makes_written _ _ _ _ (doing.leaves units c over) = sym (append-nil c.outgoing)
makes_written _ _ _ _ (doing.sends r tsdus c short) = together_written r tsdus c
makes_written _ _ _ _ (doing.closes r c) = grind (arith, append-nil)
makes_written _ _ _ _ (doing.asks_for calling called c may) = refl
makes_written _ _ _ _ (doing.ends_so reason c) = sym (append-nil c.outgoing)
makes_written _ _ _ _ (doing.hears events c) = sym (append-nil c.outgoing)
makes_written _ _ _ _ (doing.rests c) = sym (append-nil c.outgoing)
makes_written _ _ _ _ (doing.and_then a b c took more put others first next) =
    makes_written b c more others next ∙ ap (λ (l : List ℕ). l ++ packets others) (makes_written a b took put first)
    ∙ append_assoc a.outgoing (packets put) (packets others)
    ∙ ap (λ (l : List ℕ). a.outgoing ++ l) (sym (packets_joined put others))

-- what takes and puts nothing, before and after
pub makes_before : (a b c : Carrier) (took put : List Value) → Makes a [] [] b → Makes b took put c → Makes a took put c
makes_before a b c took put first next = doing.and_then a b c [] took [] put first next

pub makes_after : (a b c : Carrier) (took put : List Value) → Makes a took put b → Makes b [] [] c → Makes a took put c
makes_after a b c took put first next =
    subst (λ (l : List Value). Makes a l put c) (append-nil took)
    (subst (λ (l : List Value). Makes a (took ++ []) l c) (append-nil put) (doing.and_then a b c took [] put [] first next))
