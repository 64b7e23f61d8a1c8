-- A turn of an end that uses a packet with which the end is over: it puts what the packets before it say, and nothing more. So another turn
-- that uses only packets before that one puts the same. For what an end does with the packets before a break of the other side.
use Rattle.osi_blameless.proofs.ends.Vocabulary.{[], ap, append_assoc, arith, Bool, drop, false, if◌then◌else◌, inl, inr, is_some, IsSome}
use Rattle.osi_blameless.proofs.ends.Vocabulary.{length}
use Rattle.osi_blameless.proofs.ends.Vocabulary.{List, None, Option, refl, Some, subst, sym, take, true, ℕ, ◌++◌, ◌+◌, ◌-◌, ◌∙◌, ◌∷◌, ◌≡◌}
use Rattle.osi_blameless.proofs.ends.Vocabulary.{◌⊎◌}
use Rattle.osi_blameless.proofs.ends.Vocabulary.{append-nil, length-append, take_all, take-append-drop, end_no_packet, one_packet}
use Rattle.osi_blameless.proofs.ends.Vocabulary.{ArePackets}
use Rattle.osi_blameless.proofs.ends.Vocabulary.{Ending, EndsAt, offset_of, Faulty, Rest, Fed, EndReason, NoMemory, quiet_stops, none_ended}
use Rattle.osi_blameless.proofs.ends.Vocabulary.{found_how, Feeds, FindsNoMemory, Goes as GoesThrough, Refuses, RunsDry, StopsBehind}
use Rattle.osi_blameless.proofs.ends.Vocabulary.{TakesPackets}
use Rattle.osi_blameless.proofs.ends.Vocabulary.{uses_all, uses_within, ends, after_packet, Starves, carrying, feeding, telling, End}
use Rattle.osi_blameless.proofs.ends.Vocabulary.{Holding}
use Rattle.osi_blameless.proofs.ends.Vocabulary.{waits, lasting_of, Act, Acts, carried_by, Takes, Turn, used_by, serving, using}
use Rattle.osi_blameless.proofs.ends.Vocabulary.{empty_partial}
use Rattle.osi_blameless.proofs.ends.Vocabulary.{Held, IsPartial, stops}
use Rattle.osi_blameless.proofs.ends.at_any_time.an_end_that_is_over_does_nothing.{never_lasts, over_takes}
use Rattle.osi_blameless.proofs.ends.at_any_time.what_class_0_does_not_take_ends_the_end.{IsLast}
use Rattle.osi_blameless.proofs.ends.reading.two_readings_of_a_stream_agree.{GoesBeyond, first, packets_on, packets_then, second}
use Rattle.osi_blameless.proofs.ends.reading.two_readings_of_a_stream_agree.{two_readings}

-- ---- packets

-- no packet begins with what is held of one
pub none_held : (held rest : List ℕ) (us : List (List ℕ)) → IsPartial held → ArePackets us held rest → us ≡ []
none_held held rest [] part h = refl
none_held held rest (u ∷ us) part (b, t, p, is, more) = absurd (end_no_packet 0 held (Rest (length held)) (part, refl) u b t p is)

none_after : (at : ℕ) (r last : List ℕ) (e : Ending) (us : List (List ℕ)) → EndsAt at r e → ArePackets us r last → us ≡ []
none_after at r last e [] k h = refl
none_after at r last e (u ∷ us) k (b, t, p, is, more) = absurd (end_no_packet at r e k u b t p is)

takes_split : (us vs : List (List ℕ)) (old new : End) → TakesPackets old (us ++ vs) new →
    (mid : End) × TakesPackets old us mid × TakesPackets mid vs new
takes_split [] vs old new t = (old, refl, t)
takes_split (u ∷ us) vs old new t = search (arith, takes_split us vs (after_packet old u) new t.1)

-- one of two lists of packets goes on with this one, or it is within the other
pub prefix_or : (xs : List (List ℕ)) (b : List ℕ) (more ys zs : List (List ℕ)) → xs ++ b ∷ more ≡ ys ++ zs →
    ((k : List (List ℕ)) × (ys ≡ xs ++ b ∷ k)) ⊎ ((k : List (List ℕ)) × (xs ≡ ys ++ k) × (k ++ b ∷ more ≡ zs))
prefix_or xs b more [] zs e = inr (xs, refl, e)
prefix_or [] b more (y ∷ ys) zs e = let one : b ≡ y = cc in inl (ys, λ i. sym one i ∷ ys)
prefix_or (x ∷ xs) b more (y ∷ ys) zs e =
    let one : x ≡ y = cc in
    let rest : xs ++ b ∷ more ≡ ys ++ zs = cc in
    by (prefix_or xs b more ys zs rest) one
  where
    by : ((k : List (List ℕ)) × (ys ≡ xs ++ b ∷ k)) ⊎ ((k : List (List ℕ)) × (xs ≡ ys ++ k) × (k ++ b ∷ more ≡ zs)) → x ≡ y →
        ((k : List (List ℕ)) × (y ∷ ys ≡ (x ∷ xs) ++ b ∷ k)) ⊎ ((k : List (List ℕ)) × (x ∷ xs ≡ (y ∷ ys) ++ k) × (k ++ b ∷ more ≡ zs))
    by (inl (k, is)) one = inl (k, λ i. sym one i ∷ is i)
    by (inr (k, is, same)) one = inr (k, (λ i. one i ∷ is i), same)

-- ---- the turn

-- Another turn uses some of these packets, and puts this; nothing is held after it.
pub record TakesFirst (front : List (List ℕ)) (put : List ℕ) (old : Holding) : Type 0 where
  pub used : List (List ℕ)
  pub left : List (List ℕ)
  pub parts : front ≡ used ++ left
  pub turn : Turn
  pub new : Holding
  pub takes : Takes old turn new
  pub put_is : turn.put ≡ put
  pub cut : ArePackets used (old.held.octets ++ turn.used) []
  pub held : new.held.octets ≡ []

-- The end is over. Nothing was put, or another turn puts the same.
pub record Stopped (front : List (List ℕ)) (put : List ℕ) (old new : Holding) : Type 0 where
  pub over : IsSome new.end.carrier.ended
  pub how : (put ≡ []) ⊎ TakesFirst front put old

nothing_more : (old new put : List ℕ) → new ≡ old ++ put → new ≡ old → put ≡ []
nothing_more old new put is same = none_longer old put (sym is ∙ same)
  where
    none_longer : (xs ys : List ℕ) → xs ++ ys ≡ xs → ys ≡ []
    none_longer xs [] e = refl
    none_longer xs (y ∷ ys) e = absurd (let n = ap length e ∙ refl in let size = length-append xs (y ∷ ys) in omega (arith, n, size))

module _ (old : Holding) (lasts : old.end.carrier.ended ≡ None) (quiet : waits old.end.lines ≡ false) (part : IsPartial old.held.octets)
    (front : List (List ℕ)) (put : List ℕ) where
  -- a feed of a piece that was used whole
  record Feeding (piece : List ℕ) (new : Holding) : Type 0 where
    turn : Turn
    takes : Takes old turn new
    used_is : turn.used ≡ piece
    put_is : turn.put ≡ put

  as_feed : (piece : List ℕ) (new : Holding) → (goes : GoesThrough old piece (length piece) new) →
      new.end.carrier.outgoing ≡ old.end.carrier.outgoing ++ put → Feeding piece new
  as_feed piece new goes outgoing =
      let fed : Fed = record { used = length piece; whole = waits new.end.lines } in
      record {
        turn = record { used = piece; put = put };
        takes = record {
          act = serving (feeding piece fed);
          acts = grind arith;
          used = sym (take_all (length piece) piece (omega arith));
          put = outgoing;
        };
        used_is = refl;
        put_is = refl;
      }

  -- packets in it
  first_of : (piece : List ℕ) (new : Holding) → Feeding piece new → (used left : List (List ℕ)) → front ≡ used ++ left →
      ArePackets used (old.held.octets ++ piece) [] → new.held.octets ≡ [] → TakesFirst front put old
  first_of piece new f used left parts cut held = record {
    used = used;
    left = left;
    parts = parts;
    turn = f.turn;
    new = new;
    takes = f.takes;
    put_is = f.put_is;
    cut = subst (λ (l : List ℕ). ArePackets used (old.held.octets ++ l) []) (sym f.used_is) cut;
    held = held;
  }

  -- the octets of these packets after what is held
  record Piece (used : List (List ℕ)) : Type 0 where
    piece : List ℕ
    cut : ArePackets used (old.held.octets ++ piece) []

  octets_of : (us : List (List ℕ)) (s r : List ℕ) → ArePackets us s r → (o : List ℕ) × (s ≡ o ++ r) × ArePackets us o []
  octets_of [] s r h = ([], h, refl)
  octets_of (u ∷ us) s r (b, t, p, is, h) =
      let (o, same, cut) = octets_of us t r h in
      (b ++ o, is ∙ ap (λ (l : List ℕ). b ++ l) same ∙ sym (append_assoc b o r), (b, o, p, refl, cut))

  shorter_first : (a b x y : List ℕ) → a ++ x ≡ b ++ y → ((z : List ℕ) × (a ++ z ≡ b)) ⊎ ((z : List ℕ) × (b ++ z ≡ a))
  shorter_first [] b x y e = inl (b, refl)
  shorter_first (a ∷ xs) [] x y e = inr (a ∷ xs, refl)
  shorter_first (a ∷ xs) (b ∷ ys) x y e =
      let one : a ≡ b = cc in
      let rest : xs ++ x ≡ ys ++ y = cc in
      by (shorter_first xs ys x y rest) one
    where
      by : ((z : List ℕ) × (xs ++ z ≡ ys)) ⊎ ((z : List ℕ) × (ys ++ z ≡ xs)) → a ≡ b →
          ((z : List ℕ) × ((a ∷ xs) ++ z ≡ b ∷ ys)) ⊎ ((z : List ℕ) × ((b ∷ ys) ++ z ≡ a ∷ xs))
      by (inl (z, is)) one = inl (z, λ i. one i ∷ is i)
      by (inr (z, is)) one = inr (z, λ i. sym one i ∷ is i)

  piece_of : (u : List ℕ) (us : List (List ℕ)) (more r : List ℕ) → ArePackets (u ∷ us) (old.held.octets ++ more) r → Piece (u ∷ us)
  piece_of u us more r h =
      let (o, same, cut) = octets_of (u ∷ us) (old.held.octets ++ more) r h in by o cut (shorter_first old.held.octets o more r same)
    where
      by : (o : List ℕ) → ArePackets (u ∷ us) o [] →
          ((z : List ℕ) × (old.held.octets ++ z ≡ o)) ⊎ ((z : List ℕ) × (o ++ z ≡ old.held.octets)) → Piece (u ∷ us)
      by o cut (inl (z, is)) = record { piece = z; cut = subst (λ (l : List ℕ). ArePackets (u ∷ us) l []) (sym is) cut }
      by o cut (inr (z, is)) =
          let none = none_held old.held.octets z (u ∷ us) part
          (subst (λ (l : List ℕ). ArePackets (u ∷ us) l z) is (packets_on (u ∷ us) o [] z cut)) in absurd (cc none)

  -- these packets alone, after which the end goes on
  pub record GoesTo (used : List (List ℕ)) (mid : End) : Type 0 where
    pub turn : Turn
    pub new : Holding
    pub there : new.end ≡ mid
    pub takes : Takes old turn new
    pub put_is : turn.put ≡ put
    pub cut : ArePackets used (old.held.octets ++ turn.used) []
    pub held : new.held.octets ≡ []

  pub dry_to : (u : List ℕ) (us : List (List ℕ)) (more r : List ℕ) (mid : End) → ArePackets (u ∷ us) (old.held.octets ++ more) r →
      TakesPackets old.end (u ∷ us) mid → stops mid ≡ false → mid.carrier.outgoing ≡ old.end.carrier.outgoing ++ put →
      GoesTo (u ∷ us) mid
  dry_to u us more r mid cut taken still outgoing =
      let p = piece_of u us more r cut in
      let held : Held = record old.held {
        octets = [];
        offset = offset_of (old.held.offset + (length (old.held.octets ++ p.piece) - 0));
      } in
      let new : Holding = record { end = mid; held = held } in
      let f = as_feed p.piece new (inl (inl (record {
        units = u ∷ us;
        all = refl;
        packets = p.cut;
        partial = empty_partial;
        taken = taken;
        quiet = still;
        offset = refl;
        room = omega arith;
      }))) outgoing in
      record {
        turn = f.turn;
        new = new;
        there = refl;
        takes = f.takes;
        put_is = f.put_is;
        cut = subst (λ (l : List ℕ). ArePackets (u ∷ us) (old.held.octets ++ l) []) (sym f.used_is) p.cut;
        held = refl;
      }

  dry_first : (used left : List (List ℕ)) (more r : List ℕ) (mid : End) → front ≡ used ++ left →
      ArePackets used (old.held.octets ++ more) r → TakesPackets old.end used mid → stops mid ≡ false →
      mid.carrier.outgoing ≡ old.end.carrier.outgoing ++ put → (put ≡ []) ⊎ TakesFirst front put old
  dry_first [] left more r mid parts cut taken still outgoing = grind (arith, nothing_more)
  dry_first (u ∷ us) left more r mid parts cut taken still outgoing =
      let g = dry_to u us more r mid cut taken still outgoing in
      inr (search arith)

  module _ (b : List ℕ) (more : List (List ℕ)) (last : (x : End) → TakesPackets old.end front x → stops x ≡ false → IsLast b x) where
    -- the last packet was taken: then no other one
    record Reached (x : End) : Type 0 where
      before : End
      taken : TakesPackets old.end front before
      still : stops before ≡ false
      is : x ≡ after_packet before b
      over : IsSome x.carrier.ended
      outgoing : x.carrier.outgoing ≡ before.carrier.outgoing

    reached : (m : List (List ℕ)) (x : End) → TakesPackets old.end (front ++ b ∷ m) x → Reached x
    reached m x t =
        let (before, a, (still, rest)) = takes_split front (b ∷ m) old.end x t in
        let l = last before a still in
        let same = over_takes m (after_packet before b) x l.acts.0 rest in
        record {
          before = before;
          taken = a;
          still = still;
          is = same;
          over = ap (λ (e : End). is_some e.carrier.ended) same ∙ l.acts.0;
          outgoing = ap (λ (e : End). e.carrier.outgoing) same ∙ l.acts.1;
        }

    never_quiet : {A : Type 0} (m : List (List ℕ)) (x : End) → TakesPackets old.end (front ++ b ∷ m) x → stops x ≡ false → A
    never_quiet m x t still = grind (arith, reached, never_lasts, lasting_of)

    module _ (new : Holding) (outgoing : new.end.carrier.outgoing ≡ old.end.carrier.outgoing ++ put) (piece rest : List ℕ) where
      -- it was taken
      by_last : (m : List (List ℕ)) (s r : List ℕ) → ArePackets (front ++ b ∷ m) (old.held.octets ++ s) r →
          TakesPackets old.end (front ++ b ∷ m) new.end → Stopped front put old new
      by_last m s r cut t =
          let k = reached m new.end t in
          let (left, first_cut, others) = front_cut front (b ∷ m) (old.held.octets ++ s) r cut in
          record {
            over = k.over;
            how = dry_first front [] s left k.before (sym (append-nil front)) first_cut k.taken k.still (sym k.outgoing ∙ outgoing);
          }
        where
          front_cut : (us vs : List (List ℕ)) (s r : List ℕ) → ArePackets (us ++ vs) s r →
              (left : List ℕ) × ArePackets us s left × ArePackets vs left r
          front_cut [] vs s r h = (s, refl, h)
          front_cut (u ∷ us) vs s r (b, t, p, is, h) =
              let (left, x, y) = front_cut us vs t r h in (left, (b, t, p, is, x), y)

      -- the whole piece was used
      module _ (cut : ArePackets (front ++ b ∷ more) (old.held.octets ++ piece) rest) where
        dry_not : (used : ℕ) → RunsDry old piece used new → Stopped front put old new
        dry_not used dry =
            by (two_readings (front ++ b ∷ more) dry.units (old.held.octets ++ piece) rest new.held.octets cut dry.packets)
          where
            within : (m : List (List ℕ)) → dry.units ≡ front ++ b ∷ m → Stopped front put old new
            within m is =
                never_quiet m new.end (subst (λ (us : List (List ℕ)). TakesPackets old.end us new.end) is dry.taken) dry.quiet

            by : GoesBeyond (front ++ b ∷ more) dry.units rest new.held.octets → Stopped front put old new
            by (second m is p) = within (more ++ m) (is ∙ append_assoc front (b ∷ more) m)
            by (first m is p) =
                let none = none_held new.held.octets rest m dry.partial p in
                within more (sym (is ∙ ap (λ (l : List (List ℕ)). dry.units ++ l) none ∙ append-nil dry.units))

        refuses_not : (used : ℕ) → Refuses old piece used new → Stopped front put old new
        refuses_not used f =
            by (two_readings (front ++ b ∷ more) f.units (old.held.octets ++ piece) rest f.cut.0 cut f.cut.1)
          where
            within : (m : List (List ℕ)) → f.units ≡ front ++ b ∷ m → Stopped front put old new
            within m is =
                never_quiet m f.before (subst (λ (us : List (List ℕ)). TakesPackets old.end us f.before) is f.taken) f.quiet

            by : GoesBeyond (front ++ b ∷ more) f.units rest f.cut.0 → Stopped front put old new
            by (second m is p) = within (more ++ m) (is ∙ append_assoc front (b ∷ more) m)
            by (first m is p) =
                let none = none_after _ f.cut.0 rest (Faulty f.fault) m f.cut.2 p in
                within more (sym (is ∙ ap (λ (l : List (List ℕ)). f.units ++ l) none ∙ append-nil f.units))

        -- memory ran out
        by_short : (used : ℕ) (f : FindsNoMemory old piece used new) →
            (new.end ≡ ends NoMemory f.before)
            ⊎ ((packet : List ℕ) × ArePackets (packet ∷ []) f.rest [] × Starves f.before packet new.end) →
            (k : List (List ℕ)) (m : List (List ℕ)) → front ≡ f.units ++ k → k ++ b ∷ more ≡ m →
            ArePackets m (f.rest ++ drop f.within piece) rest → Stopped front put old new
        by_short used f (inl is) k m parts same p = record {
          over = none_ended old piece used new f;
          how = dry_first f.units k (take f.within piece) f.rest f.before parts f.packets f.taken f.quiet
              (sym (ap (λ (e : End). e.carrier.outgoing) is) ∙ outgoing);
        }
        by_short used f (inr (packet, one, starved)) [] m parts same p =
            let all : front ≡ f.units = parts ∙ append-nil f.units in
            let there : ArePackets (b ∷ more) (f.rest ++ drop f.within piece) rest =
            subst (λ (l : List (List ℕ)). ArePackets l (f.rest ++ drop f.within piece) rest) (sym same) p in
            let it : packet ≡ b = same_first packet b more (f.rest ++ drop f.within piece) (drop f.within piece) rest
            (packets_on (packet ∷ []) f.rest [] (drop f.within piece) one) there in
            let l = (last f.before (subst (λ (us : List (List ℕ)). TakesPackets old.end us f.before) (sym all) f.taken) f.quiet).starves
            new.end (subst (λ (u : List ℕ). Starves f.before u new.end) it starved) in
            record {
              over = l.0;
              how = dry_first f.units [] (take f.within piece) f.rest f.before parts f.packets f.taken f.quiet (sym l.1 ∙ outgoing);
            }
          where
            same_first : (u v : List ℕ) (vs : List (List ℕ)) (s r q : List ℕ) → ArePackets (u ∷ []) s r → ArePackets (v ∷ vs) s q → u ≡ v
            same_first u v vs s r q (x, t, k, is, h) (y, w, l, too, g) = (one_packet u v x y t w k l (sym is ∙ too)).1
        by_short used f (inr (packet, one, starved)) (q ∷ k) m parts same p =
            let there : ArePackets (q ∷ (k ++ b ∷ more)) (f.rest ++ drop f.within piece) rest =
            subst (λ (l : List (List ℕ)). ArePackets l (f.rest ++ drop f.within piece) rest) (sym same) p in
            let it : packet ≡ q = same_first packet q (k ++ b ∷ more) (f.rest ++ drop f.within piece) (drop f.within piece) rest
            (packets_on (packet ∷ []) f.rest [] (drop f.within piece) one) there in
            let now : List ℕ = take f.within piece in
            let whole : take (length now) now ≡ now = take_all (length now) now (omega arith) in
            let cut_now : ArePackets (f.units ++ packet ∷ []) (old.held.octets ++ now) [] =
            grind (arith, packets_then, append-nil (old.held.octets ++ now), append-nil f.rest) in
            record {
              over = none_ended old piece used new f;
              how = inr (first_of now new (as_feed now new
                  (inr (inr (record {
                    within = length now;
                    units = f.units;
                    rest = f.rest;
                    before = f.before;
                    all = refl;
                    bound = omega arith;
                    packets = subst (λ (l : List ℕ). ArePackets f.units (old.held.octets ++ l) f.rest) (sym whole) f.packets;
                    taken = f.taken;
                    quiet = f.quiet;
                    how = inr (packet, one, starved);
                    held = f.held;
                    faultless = grind (arith, end_no_packet, append_assoc);
                  }))) outgoing) (f.units ++ packet ∷ []) k
                  (parts ∙ ap (λ (u : List ℕ). f.units ++ (u ∷ k)) (sym it) ∙ sym (append_assoc f.units (packet ∷ []) k)) cut_now f.held);
            }
          where
            same_first : (u v : List ℕ) (vs : List (List ℕ)) (s r q : List ℕ) → ArePackets (u ∷ []) s r → ArePackets (v ∷ vs) s q → u ≡ v
            same_first u v vs s r q (x, t, k, is, h) (y, w, l, too, g) = (one_packet u v x y t w k l (sym is ∙ too)).1

        short_of : (used : ℕ) → FindsNoMemory old piece used new → Stopped front put old new
        short_of used f =
            by (two_readings (front ++ b ∷ more) f.units (old.held.octets ++ piece) rest (f.rest ++ drop f.within piece) cut whole)
          where
            whole : ArePackets f.units (old.held.octets ++ piece) (f.rest ++ drop f.within piece)
            whole =
                subst (λ (l : List ℕ). ArePackets f.units l (f.rest ++ drop f.within piece))
                (grind (arith, append_assoc, take-append-drop))
                (packets_on f.units (old.held.octets ++ take f.within piece) f.rest (drop f.within piece) f.packets)

            within : (m : List (List ℕ)) → f.units ≡ front ++ b ∷ m → Stopped front put old new
            within m is =
                never_quiet m f.before (subst (λ (us : List (List ℕ)). TakesPackets old.end us f.before) is f.taken) f.quiet

            by : GoesBeyond (front ++ b ∷ more) f.units rest (f.rest ++ drop f.within piece) → Stopped front put old new
            by (second m is p) = within (more ++ m) (is ∙ append_assoc front (b ∷ more) m)
            by (first m is p) = then_so (prefix_or front b more f.units m is)
              where
                then_so : ((k : List (List ℕ)) × (f.units ≡ front ++ b ∷ k))
                    ⊎ ((k : List (List ℕ)) × (front ≡ f.units ++ k) × (k ++ b ∷ more ≡ m)) → Stopped front put old new
                then_so (inl (k, same)) = within k same
                then_so (inr (k, parts, same)) = by_short used f (found_how old piece used new f) k m parts same p

      -- it stopped after a packet
      module _ (used : ℕ) (cut : ArePackets (front ++ b ∷ more) (old.held.octets ++ take used piece) rest) where
        stop_of : StopsBehind old piece used new → Stopped front put old new
        stop_of s = by_end new.end.carrier.ended refl (uses_all new.end) refl
          where
            -- the packets that were taken stand in what was used
            at_used : (r : List ℕ) → ArePackets s.units (old.held.octets ++ take used piece) r →
                ((k m : List (List ℕ)) → front ≡ s.units ++ k → k ++ b ∷ more ≡ m → ArePackets m r rest → Stopped front put old new) →
                Stopped front put old new
            at_used r here inside = by (two_readings (front ++ b ∷ more) s.units (old.held.octets ++ take used piece) rest r cut here)
              where
                within : (m : List (List ℕ)) → s.units ≡ front ++ b ∷ m → Stopped front put old new
                within m is =
                    by_last m (take used piece) r
                    (subst (λ (us : List (List ℕ)). ArePackets us (old.held.octets ++ take used piece) r) is here)
                    (subst (λ (us : List (List ℕ)). TakesPackets old.end us new.end) is s.taken)

                by : GoesBeyond (front ++ b ∷ more) s.units rest r → Stopped front put old new
                by (second m is p) = within (more ++ m) (is ∙ append_assoc front (b ∷ more) m)
                by (first m is p) = then_so (prefix_or front b more s.units m is)
                  where
                    then_so : ((k : List (List ℕ)) × (s.units ≡ front ++ b ∷ k))
                        ⊎ ((k : List (List ℕ)) × (front ≡ s.units ++ k) × (k ++ b ∷ more ≡ m)) → Stopped front put old new
                    then_so (inl (k, same)) = within k same
                    then_so (inr (k, parts, same)) = inside k m parts same p

            -- no more was used than these packets
            used_so : used ≡ s.within → Stopped front put old new
            used_so same =
                at_used [] (subst (λ (n : ℕ). ArePackets s.units (old.held.octets ++ take n piece) []) (sym same) s.packets)
                (λ k m parts all p. absurd (never_none k b more m all (no_more m rest p)))
              where
                no_more : (m : List (List ℕ)) (r : List ℕ) → ArePackets m [] r → m ≡ []
                no_more m r p = none_held [] r m empty_partial p

                never_none : (k : List (List ℕ)) (b : List ℕ) (more m : List (List ℕ)) → k ++ b ∷ more ≡ m → m ≡ [] → ⊥
                never_none [] b more m e none = let no : b ∷ more ≡ [] = e ∙ none in cc
                never_none (u ∷ k) b more m e none = let no : u ∷ (k ++ b ∷ more) ≡ [] = e ∙ none in cc

            -- all was used: the end is over
            whole_used : IsSome new.end.carrier.ended → used ≡ length piece → Stopped front put old new
            whole_used over all =
                let now : List ℕ = take s.within piece in
                let whole : take (length now) now ≡ now = take_all (length now) now (omega arith) in
                let piece_is : take used piece ≡ piece = ap (λ (n : ℕ). take n piece) all
                ∙ take_all (length piece) piece (omega arith) in
                at_used (drop s.within piece)
                (subst (λ (l : List ℕ). ArePackets s.units (old.held.octets ++ l) (drop s.within piece)) (sym piece_is)
                (subst (λ (l : List ℕ). ArePackets s.units l (drop s.within piece))
                (append_assoc old.held.octets now (drop s.within piece)
                ∙ ap (λ (l : List ℕ). old.held.octets ++ l) (take-append-drop s.within piece))
                (packets_on s.units (old.held.octets ++ now) [] (drop s.within piece) s.packets)))
                (λ k m parts same p. record {
                  over = over;
                  how = inr (first_of now new (as_feed now new
                      (inl (inr (record {
                        within = length now;
                        units = s.units;
                        bound = omega arith;
                        packets = subst (λ (l : List ℕ). ArePackets s.units (old.held.octets ++ l) []) (sym whole) s.packets;
                        taken = s.taken;
                        stopped = s.stopped;
                        uses = either (uses_all new.end) (length now);
                        held = s.held;
                        offset = s.offset
                            ∙ ap (λ (l : List ℕ). offset_of (old.held.offset + length (old.held.octets ++ l))) (sym whole);
                        room = s.room;
                      }))) outgoing) s.units k parts s.packets s.held);
                })
              where
                either : (x : Bool) (n : ℕ) → n ≡ (if x then n else n)
                either true n = refl
                either false n = refl

            by_end : (o : Option EndReason) → new.end.carrier.ended ≡ o → (x : Bool) → uses_all new.end ≡ x → Stopped front put old new
            by_end None l x all = used_so (uses_within new.end (length piece) s.within used s.stopped l s.uses)
            by_end (Some reason) over false all =
                used_so (s.uses ∙ ap (λ (x : Bool). if x then length piece else s.within) all)
            by_end (Some reason) over true all =
                whole_used (ap is_some over) (s.uses ∙ ap (λ (x : Bool). if x then length piece else s.within) all)

-- ---- any turn

module _ (old new : Holding) (turn : Turn) (lasts : old.end.carrier.ended ≡ None) (part : IsPartial old.held.octets)
    (front : List (List ℕ)) (b : List ℕ) (more : List (List ℕ)) (rest : List ℕ)
    (last : (x : End) → TakesPackets old.end front x → stops x ≡ false → IsLast b x) where
  none_used : (octets : List ℕ) → octets ≡ [] → ArePackets (front ++ b ∷ more) (old.held.octets ++ octets) rest →
      Stopped front turn.put old new
  none_used octets none cut =
      absurd (never_none front (grind (arith, none_held, append-nil)))
    where
      never_none : (k : List (List ℕ)) → k ++ b ∷ more ≡ [] → ⊥
      never_none [] e = cc
      never_none (u ∷ k) e = cc

  fed_so : (piece : List ℕ) (fed : Fed) → Feeds old piece fed new → new.end.carrier.outgoing ≡ old.end.carrier.outgoing ++ turn.put →
      ArePackets (front ++ b ∷ more) (old.held.octets ++ take fed.used piece) rest → (w : Bool) → waits old.end.lines ≡ w →
      Stopped front turn.put old new
  fed_so piece fed f outgoing cut true w = grind (arith, none_used)
  fed_so piece fed f outgoing cut false w = by (f.goes (quiet_stops old.end (ap is_some lasts) w))
    where
      whole : fed.used ≡ length piece → ArePackets (front ++ b ∷ more) (old.held.octets ++ piece) rest
      whole all =
          subst (λ (l : List ℕ). ArePackets (front ++ b ∷ more) (old.held.octets ++ l) rest)
          (ap (λ (n : ℕ). take n piece) all ∙ take_all (length piece) piece (omega arith)) cut

      by : GoesThrough old piece fed.used new → Stopped front turn.put old new
      by (inl (inl dry)) =
          dry_not old lasts w part front turn.put b more last new outgoing piece rest (whole dry.all) fed.used dry
      by (inl (inr s)) = stop_of old lasts w part front turn.put b more last new outgoing piece rest fed.used cut s
      by (inr (inl r)) = refuses_not old lasts w part front turn.put b more last new outgoing piece rest (whole r.all) fed.used r
      by (inr (inr n)) = short_of old lasts w part front turn.put b more last new outgoing piece rest (whole n.all) fed.used n

  pub stopped_there : Takes old turn new → ArePackets (front ++ b ∷ more) (old.held.octets ++ turn.used) rest →
      Stopped front turn.put old new
  stopped_there takes cut = by takes.act takes.acts takes.used takes.put
    where
      by : (act : Act) → Acts old act new → turn.used ≡ used_by act →
          carried_by act ++ new.end.carrier.outgoing ≡ old.end.carrier.outgoing ++ turn.put → Stopped front turn.put old new
      by (serving (feeding piece fed)) acts used outgoing =
          fed_so piece fed acts outgoing
          (subst (λ (l : List ℕ). ArePackets (front ++ b ∷ more) (old.held.octets ++ l) rest) used cut) (waits old.end.lines) refl
      by (serving (telling shown)) acts used outgoing = none_used turn.used used cut
      by (serving (carrying octets)) acts used outgoing = none_used turn.used used cut
      by (using call) acts used outgoing = none_used turn.used used cut
