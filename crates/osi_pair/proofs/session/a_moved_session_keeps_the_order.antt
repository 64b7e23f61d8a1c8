-- An end whose session has moved satisfies its invariant before what it sends is handed over.
-- For packets.
use Rattle.osi_session.specs.Listening as words
use Rattle.osi_stack.specs.Moving.{noted}
use Rattle.osi_pair.proofs.Vocabulary.{◌≡◌, ◌≢◌, ℕ, ◌≤◌, ◌==◌, Bool, true, false, [], Some, None, refl, subst, arith, eqb-true, eq-eqb}
use Rattle.osi_pair.proofs.Vocabulary.{IsOrderly, value_at, State as Carrier, is_open, put_here, put_other, put_rise, put_up, Listener}
use Rattle.osi_pair.proofs.Vocabulary.{Input, Standing, react, HasNumbersInWords, CameAbout, AllCameAbout, needs_link, kept_at, limit_for}
use Rattle.osi_pair.proofs.Vocabulary.{answers, line_after, to_session, End, session_all, came_moves, apart_put, up_more, IsInOrder}
use Rattle.osi_pair.proofs.Vocabulary.{put_row as put, EndLine as Line}
use Rattle.osi_pair.proofs.packet.an_end_handles_its_carriers_events.{lines_then}
use Rattle.osi_pair.proofs.session.an_end_moves_as_the_tables_do.{as_made}

-- ---- what happens to a session of an end

-- its session was this one, and makes this move; its reply is sent within the size of the session
pub session_moves : (n : ℕ) (heard : words.Input) (e : End) (line : Line) (l : Listener) (m : words.Move) → value_at n e.lines ≡ Some line →
    line.session ≡ Some l → words.react l heard ≡ m →
    to_session n heard e ≡ record {
      carrier = answers n (limit_for l heard) m e.carrier;
      lines = put n (line_after (noted l heard line) m) e.lines;
    }
session_moves n heard e line l m here is so = cc

-- that of the session of the tables, which sends by itself
pub session_acts : (n : ℕ) (heard : words.Input) (input : Input) (e : End) (line : Line) (l : Listener) (x : Standing) →
    value_at n e.lines ≡ Some line → line.session ≡ Some l → words.react l heard ≡ as_made (react x input) → limit_for l heard ≡ 0 →
    to_session n heard e ≡ record {
      carrier = answers n 0 (as_made (react x input)) e.carrier;
      lines = lines_then n (noted l heard line) x input e.lines;
    }
session_acts n heard input e line l x here is so alone = grind arith

-- ---- open connections

links_by : (b : Bool) (n q : ℕ) (e : End) (c : Carrier) (line was : Line) (m : words.Move) (y : Listener) → (q == n) ≡ b → IsInOrder e →
    e.carrier.ended ≡ None → c.ended ≡ None → ((r : ℕ) → r ≢ n → value_at r c.live ≡ value_at r e.carrier.live) →
    value_at n e.lines ≡ Some was → (needs_link m.next.state.phase ≡ true → is_open n c ≡ true) →
    kept_at q (put n (line_after line m) e.lines) ≡ Some y → needs_link y.state.phase ≡ true → is_open q c ≡ true
links_by true n q e c line was m y f o alive lasts apart here opens kept needs =
    grind (arith, eqb-true q n f, put_here n (line_after line m) was e.lines here)
links_by false n q e c line was m y f o alive lasts apart here opens kept needs = grind (arith, eq-eqb, put_other)

pub moves_order : (e : End) (c : Carrier) (n : ℕ) (line : Line) (l : Listener) (heard : words.Input) (m : words.Move) → IsInOrder e →
    e.carrier.ended ≡ None → IsOrderly c → c.events ≡ [] → c.ended ≡ None → e.carrier.given ≤ c.given →
    ((q : ℕ) → q ≢ n → value_at q c.live ≡ value_at q e.carrier.live) → value_at n e.lines ≡ Some line → line.session ≡ Some l →
    words.react l heard ≡ m → HasNumbersInWords heard → (needs_link m.next.state.phase ≡ true → is_open n c ≡ true) →
    IsInOrder (record { carrier = c; lines = put n (line_after (noted l heard line) m) e.lines })
moves_order e c n line l heard m o alive orderly none lasts more apart here is so numbered opens =
    let mid : End = record { carrier = c; lines = e.lines } in
    let next = line_after (noted l heard line) m in
    record {
      heard = none;
      sound = record {
        orderly = orderly;
        apart = apart_put n next e.lines o.sound.apart;
        known = put_up c.given n next e.lines (up_more e.carrier.given c.given e.lines more o.sound.known);
        links = λ over q y kept needs. links_by (q == n) n q e c
            (noted l heard line) line m y refl o alive lasts apart here opens kept needs;
      };
      rising = put_rise 0 n next e.lines o.rising;
      came = subst (λ (z : End). AllCameAbout z.lines) (session_moves n heard mid line l m here is so)
          (session_all CameAbout n heard mid (came_moves heard numbered) o.came);
    }
