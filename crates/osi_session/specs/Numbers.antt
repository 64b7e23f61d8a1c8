-- The numbers of synchronization points, and how they change.
use Rattle.std.specs.Prelude.{ℕ, ◌+◌, true, false, nat_lt, if◌then◌else◌}
use Rattle.osi_session.specs.declared.numbers.Numbers.{Numbers}

abbrev pub from_base : ℕ → Numbers
from_base b = record { next = b; confirmed = b; lowest = b; answers = false }

-- a point is sent: if the last was taken, V(A) becomes V(M) and the flag goes off
unfoldable pub point_sent : Numbers → Numbers
point_sent v = record v {
  next = v.next + 1;
  confirmed = if v.answers then v.next else v.confirmed;
  answers = false;
}

-- a point is taken: if the last was sent, V(A) becomes V(M) and the flag goes on
unfoldable pub point_taken : Numbers → Numbers
point_taken v = record v {
  next = v.next + 1;
  confirmed = if v.answers then v.confirmed else v.next;
  answers = true;
}

unfoldable pub minor_confirmed : ℕ → Numbers → Numbers
minor_confirmed n v = record v { confirmed = n + 1 }

unfoldable pub major_confirmed : Numbers → Numbers
major_confirmed v = record v { confirmed = v.next; lowest = v.next }

-- the lower of two numbers
abbrev pub lower : ℕ → ℕ → ℕ
lower n m = if nat_lt n m then n else m

-- a restart at n: V(M) becomes n, and so do V(A) and V(R) if they are above n; the flag stays
unfoldable pub restarted_at : ℕ → Numbers → Numbers
restarted_at n v = record v { next = n; confirmed = lower n v.confirmed; lowest = lower n v.lowest }
