-- The numbers stay in order, however they change.
use Rattle.osi_session.proofs.Vocabulary.{Numbers, point_sent, point_taken, major_confirmed, restarted_at, AreOrdered, ℕ, ◌≤◌, ◌<◌, arith}

pub sent_ordered : (base : ℕ) (v : Numbers) → AreOrdered base v → v.next < 1000000 → AreOrdered base (point_sent v)
unfolding point_sent
sent_ordered base v h k = grind arith

pub taken_ordered : (base : ℕ) (v : Numbers) → AreOrdered base v → v.next < 1000000 → AreOrdered base (point_taken v)
unfolding point_taken
taken_ordered base v h k = grind arith

pub major_ordered : (base : ℕ) (v : Numbers) → AreOrdered base v → AreOrdered base (major_confirmed v)
unfolding major_confirmed
major_ordered base v h = grind arith

pub restart_ordered : (base n : ℕ) (v : Numbers) → AreOrdered base v → base ≤ n → n < 1000000 → AreOrdered base (restarted_at n v)
unfolding restarted_at
restart_ordered base n v h0 h1 h2 = grind arith
