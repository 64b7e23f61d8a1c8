-- Two links of class 2 as a CR and its CC open them.
-- For links, connections of class 2 and joined carriers.
use Rattle.osi_between.proofs.Vocabulary.{ℕ, ◌<◌, ◌^◌, ◌≤◌, true, List, [], min, Option, refl, arith, pow-le-pow_right, IsOctets}
use Rattle.osi_between.proofs.Vocabulary.{size_code, window_units, Connect, request, opened_pair, Standing, two_standing, fresh_two}
use Rattle.osi_between.proofs.Vocabulary.{selected_size, Class, Two, Local, agree_begins, begins, IsSendable, proposal_by, agreed_size}
use Rattle.osi_between.proofs.Vocabulary.{opened_link, answer_of, IsTsap, AreOpen, length-append}

-- ---- links

-- a new link of class 2: the code of its size, its window and the peer's
abbrev new_link : ℕ → ℕ → ℕ → Standing
new_link code window credit = two_standing (fresh_two (2 ^ code) window credit).ends (fresh_two (2 ^ code) window credit).flow

new_open : (i j a b : ℕ) → 7 ≤ i → i ≤ 13 → 7 ≤ j → j ≤ 13 → 1 ≤ a → a ≤ 15 → 1 ≤ b → b ≤ 15 →
    AreOpen true (opened_pair (new_link i a b) (new_link j b a))
new_open i j a b least most least_j most_j some few some_b few_b =
    let left = new_link i a b in
    let right = new_link j b a in
    let there = begins left right (refl, refl, refl) (refl, refl, refl) in
    let back = begins right left (refl, refl, refl) (refl, refl, refl) in
    record {
      agree = grind (
        arith,
        agree_begins left right (fresh_two (2 ^ i) a b).flow
            (fresh_two (2 ^ j) b a).flow b refl refl refl refl few_b,
        agree_begins right left (fresh_two (2 ^ j) b a).flow
            (fresh_two (2 ^ i) a b).flow a refl refl refl refl few,
      ) steps 200000;
      whole = there.0;
      whole_back = back.0;
      short = grind arith;
      short_back = grind arith;
      range = tt;
      range_back = tt;
      left = grind (arith, pow-le-pow_right {n = 2} (omega arith) most, pow-le-pow_right {n = 2} (omega arith) least);
      right = grind (arith, pow-le-pow_right {n = 2} (omega arith) most_j, pow-le-pow_right {n = 2} (omega arith) least_j);
    }

-- ---- the CR and its CC

-- the CR of a caller that supports class 2
abbrev pub request_of : Local → Option Class → Option (List ℕ) → Option (List ℕ) → ℕ → Connect
request_of caller class calling called n = proposal_by true caller class calling called n

-- the links that they open
abbrev pub caller_link : ℕ → Local → Local → Connect → Standing
caller_link n caller called c =
    opened_link Two (agreed_size (answer_of n called c).parameters.size caller) caller (answer_of n called c).credit

abbrev pub called_link : Local → Connect → Standing
called_link called c = opened_link Two (selected_size c called) called c.credit

pub opens_links : (caller called : Local) (class : Option Class) (calling to : Option (List ℕ)) (n : ℕ) →
    AreOpen true (opened_pair (caller_link n caller called (request_of caller class calling to n))
    (called_link called (request_of caller class calling to n)))
opens_links caller called class calling to n =
    let w = called.size.at_most in
    let a = caller.window.at_least in
    let b = called.window.at_least in
    let p = caller.window.at_most in
    let q = called.window.at_most in
    new_open (min (min (size_code caller.size) (size_code called.size)) (size_code caller.size))
    (min (size_code caller.size) (size_code called.size))
    (window_units caller.window) (window_units called.window) (omega arith) (omega arith) (omega arith) (omega arith) a p b q

-- ---- they can be written

pub no_octets : IsOctets []
no_octets i = omega arith

pub asked_sendable : (caller : Local) (class : Option Class) (calling called : Option (List ℕ)) (n : ℕ) → n < 65536 → IsTsap calling →
    IsTsap called → IsSendable (request (request_of caller class calling called n))
asked_sendable caller class calling called n few fits fits_called = search (arith, length-append, no_octets)
