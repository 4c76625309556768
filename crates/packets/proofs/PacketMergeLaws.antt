-- Laws of all output packets, measured and written.
use Prim.Native.Nat.{ℕ, ◌+◌, ◌≤◌, ◌<◌}
use native.Mathlib.Omega.{arith}
use mathlib.Core.Path.{◌≡◌, refl, sym, ap, ap₂, ◌∙◌}
use mathlib.Core.List.{List, [], ◌∷◌, ◌++◌, append_assoc, append-nil, map-append}
use lib.ListN.{length, drop, get_or, set, length-append, length-map, length-set, drop_of_length-le}
use lib.Seq.{slice_empty}
use Rattle.std.specs.Prelude.{Option, Some, None}
use Rattle.bitio.specs.Lent.{pasted, Wrote}
use Rattle.bitio.proofs.LentLaws.{pasted-nil, pasted-set, wrote-length, wrote-more}
use Rattle.bitio.specs.Every.Every.{nothing, also}
use Rattle.bitio.specs.Limits.{limit, capped}
use Rattle.container.specs.Stream.{flat, stream_bytes}
use Rattle.container.proofs.StreamLaws.{flat_append}
use Rattle.container.proofs.ListLaws.{ends-length, ends_more}
use Rattle.packets.specs.Packets.{Packet, alone, merge_packets}
use Rattle.container.specs.Units.{ends_of}
use Rattle.packets.specs.PacketLists.{bytes_of, times_of}
use Rattle.bitio.specs.Every.{Every}
use Rattle.container.specs.Lists.{listed}
use Rattle.packets.specs.code.PacketRuns.{piece, Parses, Waits, Next, NextClose, stop_of, Piece, PieceRoom, packets_of, merged_of, Totals, Closing, MergeRoom, Ready, WroteMerged}
use Rattle.container.proofs.ListLaws.{listed-length}
use Rattle.packets.specs.code.Walk.{Among}
use Rattle.packets.proofs.PacketListLaws.{packets-bytes, packets-times, packets-short}
use Rattle.packets.proofs.PacketSteps.{length-bytes_of, step-more, step-last}

-- ---- lists of packets, one more

stream-append : (us vs : List (List ℕ)) → stream_bytes (us ++ vs) ≡ stream_bytes us ++ stream_bytes vs
unfolding stream_bytes
stream-append us vs = flat_append us vs

module _ (ps : List Packet) where
  pub times-length : length (times_of ps) ≡ length ps
  unfolding times_of
  times-length = length-map ps (λ p. p.time)

  module _ (p : Packet) where
    bytes-more : bytes_of (ps ++ (p ∷ [])) ≡ bytes_of ps ++ (p.bytes ∷ [])
    unfolding bytes_of
    bytes-more = map-append (λ q. q.bytes) ps (p ∷ [])

    times_more : times_of (ps ++ (p ∷ [])) ≡ times_of ps ++ (p.time ∷ [])
    unfolding times_of
    times_more = map-append (λ q. q.time) ps (p ∷ [])

    stream-more : stream_bytes (bytes_of (ps ++ (p ∷ []))) ≡ stream_bytes (bytes_of ps) ++ p.bytes
    unfolding stream_bytes flat
    stream-more = ap stream_bytes bytes-more ∙ stream-append (bytes_of ps) (p.bytes ∷ []) ∙ ap (λ l. stream_bytes (bytes_of ps) ++ l) (append-nil p.bytes)

    stream-length : length (stream_bytes (bytes_of (ps ++ (p ∷ [])))) ≡ length (stream_bytes (bytes_of ps)) + length p.bytes
    stream-length = ap length stream-more ∙ length-append (stream_bytes (bytes_of ps)) p.bytes

    out-ends-more : ends_of 0 (bytes_of (ps ++ (p ∷ []))) ≡ ends_of 0 (bytes_of ps) ++ ((0 + length (stream_bytes (bytes_of ps)) + length p.bytes) ∷ [])
    out-ends-more = ap (ends_of 0) bytes-more ∙ ends_more 0 (bytes_of ps) p.bytes

stream-split : (ps rs : List Packet) → length (stream_bytes (bytes_of (ps ++ rs))) ≡ length (stream_bytes (bytes_of ps)) + length (stream_bytes (bytes_of rs))
unfolding bytes_of
stream-split ps rs =
    ap (λ l. length (stream_bytes l)) (map-append (λ q. q.bytes) ps rs)
    ∙ ap length (stream-append (bytes_of ps) (bytes_of rs)) ∙ length-append (stream_bytes (bytes_of ps)) (stream_bytes (bytes_of rs))

-- ---- one output packet

-- a unit from a on closes next, or none is left
abbrev pub Ahead : List (List ℕ) → ℕ → Option ℕ → Type 0
Ahead us a None = length us ≤ a
Ahead us a (Some c) = Next us a c × (c < length us)

-- those from a to b go out as one, c closes, and d is the next that closes
pub record Turn (s es ts : List ℕ) (a c : ℕ) (d : Option ℕ) (b : ℕ) : Type 0 where
  pub all : Piece s es a c b
  pub merged : merge_packets (drop a (packets_of s es ts)) ≡ record { time = get_or ts c 0; bytes = piece (listed s es) a c b } ∷ merge_packets (drop b (packets_of s es ts))
  pub next : Ahead (listed s es) b d

none_left : (s es ts : List ℕ) (n : ℕ) → length (packets_of s es ts) ≤ n → merge_packets (drop n (packets_of s es ts)) ≡ []
unfolding merge_packets alone
none_left s es ts n l = rw (drop_of_length-le (packets_of s es ts) l)

pub all-parse : {us : List (List ℕ)} → Every Waits us → Every Parses us
all-parse nothing = nothing
all-parse (also w ws) = also (record { os = w.os; reads = w.reads }) (all-parse ws)

module _ (s es ts : List ℕ) (short : length s ≤ limit) (match : length es ≡ length ts) where
  abbrev qs : List Packet
  qs = packets_of s es ts

  eb : bytes_of qs ≡ listed s es
  eb = packets-bytes s es ts match

  pub packets-length : length qs ≡ length es
  packets-length = sym (length-bytes_of qs) ∙ ap length eb ∙ listed-length 0 s es

  module _ (a c : ℕ) (n : Next (listed s es) a c) (l : c < length (listed s es)) where
    turn_more : (d : ℕ) → Next (listed s es) (c + 1) d → d < length (listed s es) → Turn s es ts a c (Some d) (c + 1)
    turn_more d m k =
        let n' : Next (bytes_of qs) a c = rw eb n in
        let m' : Next (bytes_of qs) (c + 1) d = rw eb m in
        let e : length (listed s es) ≡ length es = listed-length 0 s es in
        record {
          all =
              record {
                short = short;
                order = n.order;
                after = omega arith;
                within = omega arith;
                front = all-parse n.wait;
                back = rw (slice_empty (c + 1) (listed s es)) nothing;
              };
          merged = rw (eb, packets-times s es ts match) at (step-more qs a c n' (omega (arith, packets-length)) d m' (omega (arith, packets-length)));
          next = (m, k);
        }

    turn_last : Next (listed s es) (c + 1) (length (listed s es)) → Turn s es ts a c None (length es)
    turn_last m =
        let n' : Next (bytes_of qs) a c = rw eb n in
        let m' : Next (bytes_of qs) (c + 1) (length (bytes_of qs)) = rw eb m in
        let e : length (listed s es) ≡ length es = listed-length 0 s es in
        record {
          all =
              record {
                short = short;
                order = n.order;
                after = omega arith;
                within = omega arith;
                front = all-parse n.wait;
                back = rw (← e) (all-parse m.wait);
              };
          merged =
              rw (eb, packets-times s es ts match, e) at (step-last qs a c n' (omega (arith, packets-length)) (packets-short s es ts match short) m')
              ∙ ap (λ r. record { time = get_or ts c 0; bytes = piece (listed s es) a c (length es) } ∷ r) (sym (none_left s es ts (length es) (omega (arith, packets-length))));
          next = omega arith;
        }

    pub turn : {b : ℕ} (d : Option ℕ) → NextClose (listed s es) (c + 1) d → b ≡ stop_of d (c + 1) (length ts) → Turn s es ts a c d b
    turn None m e = rw (e, ← match) (turn_last m)
    turn (Some d) m e = rw e (turn_more d m.0 m.1)

-- ---- measuring

-- the packets before `first` are done; the next that closes is `at`
pub record Done (s es ts : List ℕ) (first : ℕ) (at : Option ℕ) (done : List Packet) : Type 0 where
  pub short : length s ≤ limit
  pub match : length es ≡ length ts
  pub same : merged_of s es ts ≡ done ++ merge_packets (drop first (packets_of s es ts))
  pub few : length done ≤ first
  pub within : first ≤ length es
  pub next : Ahead (listed s es) first at

pub done-start : {s es ts : List ℕ} {c : ℕ} → Closing s es ts c → Done s es ts 0 (Some c) []
done-start {s} {es} k =
    let e = listed-length 0 s es in
    record { short = k.short; match = k.match; same = refl; few = omega arith; within = omega arith; next = (k.next, omega (arith, k.some)) }

pub done_end : {s es ts : List ℕ} {first : ℕ} {done : List Packet} → Done s es ts first None done → merged_of s es ts ≡ done
done_end {s} {es} {ts} {first} {done} m =
    m.same ∙ ap (λ r. done ++ r) (none_left s es ts first (omega (arith, packets-length s es ts m.short m.match, listed-length 0 s es, m.next))) ∙ append-nil done

module _ {s es ts : List ℕ} {first at : ℕ} {done : List Packet} (m : Done s es ts first (Some at) done) where
  module _ (d : Option ℕ) {b : ℕ} (n : NextClose (listed s es) (at + 1) d) (e : b ≡ stop_of d (at + 1) (length ts)) where
    t : Turn s es ts first at d b
    t = turn s es ts m.short m.match first at m.next.0 m.next.1 d n e

    pub done-piece : Piece s es first at b
    done-piece = t.all

    abbrev pub sent : Packet
    sent = record { time = get_or ts at 0; bytes = piece (listed s es) first at b }

    pub done_next : Done s es ts b d (done ++ (sent ∷ []))
    done_next =
        record {
          short = m.short;
          match = m.match;
          same = m.same ∙ ap (λ r. done ++ r) t.merged ∙ sym (append_assoc done (sent ∷ []) (merge_packets (drop b (packets_of s es ts))));
          few = omega (arith, length-append done (sent ∷ []), m.few, t.all.order, t.all.after);
          within = t.all.within;
          next = t.next;
        }

-- ---- measuring

pub record Measuring (s es ts : List ℕ) (first : ℕ) (at : Option ℕ) (n u : ℕ) : Type 0 where
  pub done : List Packet
  pub state : Done s es ts first at done
  pub sum : n ≡ capped (length (stream_bytes (bytes_of done)))
  pub count : u ≡ length done

pub measure-start : {s es ts : List ℕ} {c : ℕ} → Closing s es ts c → Measuring s es ts 0 (Some c) 0 0
unfolding bytes_of stream_bytes flat
measure-start k = record { done = []; state = done-start k; sum = omega arith; count = refl }

pub measure-end : {s es ts : List ℕ} {first n u : ℕ} → Measuring s es ts first None n u → Totals s es ts n u
measure-end m =
    let e = done_end m.state in
    record { bytes = rw e m.sum; count = rw e m.count }

module _ {s es ts : List ℕ} {first at n u : ℕ} (m : Measuring s es ts first (Some at) n u) where
  module _ (d : Option ℕ) {b : ℕ} (x : NextClose (listed s es) (at + 1) d) (e : b ≡ stop_of d (at + 1) (length ts)) where
    pub measure-next : {k r : ℕ} → k ≡ capped (length (piece (listed s es) first at b)) → r ≡ capped (n + k) → Measuring s es ts b d r (u + 1)
    measure-next p q =
        let y = sent m.state d x e in
        record {
          done = m.done ++ (y ∷ []);
          state = done_next m.state d x e;
          sum = omega (arith, m.sum, stream-length m.done y);
          count = omega (arith, m.count, length-append m.done (y ∷ []));
        }

-- ---- writing

-- lent memory was o₀, e₀ and t₀, and is o, e and t
pub record Putting (s es ts o₀ e₀ t₀ : List ℕ) (first : ℕ) (at : Option ℕ) (w u : ℕ) (o e t : List ℕ) : Type 0 where
  pub room : MergeRoom s es ts o₀ e₀ t₀
  pub done : List Packet
  pub state : Done s es ts first at done
  pub count : u ≡ length done
  pub wrote : Wrote o₀ 0 (stream_bytes (bytes_of done)) w o
  pub ends : e ≡ pasted e₀ 0 (ends_of 0 (bytes_of done))
  pub times : t ≡ pasted t₀ 0 (times_of done)
  pub long : length o ≡ length o₀
  pub long-ends : length e ≡ length e₀
  pub long-times : length t ≡ length t₀

pub put-start : {s es ts o e t : List ℕ} {c : ℕ} → Ready s es ts c o e t → Putting s es ts o e t 0 (Some c) 0 0 o e t
unfolding bytes_of times_of stream_bytes flat ends_of
put-start {s} {es} {ts} {o} {e} {t} {c} k =
    record {
      room = k.room;
      done = [];
      state = done-start k.measured;
      count = refl;
      wrote = record { next = refl; out = sym (pasted-nil o 0) };
      ends = sym (pasted-nil e 0);
      times = sym (pasted-nil t 0);
      long = refl;
      long-ends = refl;
      long-times = refl;
    }

pub put-end : {s es ts o₀ e₀ t₀ : List ℕ} {first w u : ℕ} {o e t : List ℕ} → Putting s es ts o₀ e₀ t₀ first None w u o e t → WroteMerged s es ts o₀ e₀ t₀ o e t
put-end m =
    let q = done_end m.state in
    record { bytes = rw q m.wrote.out; ends = rw q m.ends; times = rw q m.times }

module _ {s es ts o₀ e₀ t₀ : List ℕ} {first at w u : ℕ} {o e t : List ℕ} (m : Putting s es ts o₀ e₀ t₀ first (Some at) w u o e t) where
  module _ (d : Option ℕ) {b : ℕ} (x : NextClose (listed s es) (at + 1) d) (f : b ≡ stop_of d (at + 1) (length ts)) where
    abbrev p : Packet
    p = sent m.state d x f

    abbrev rest : List Packet
    rest = merge_packets (drop b (packets_of s es ts))

    whole : merged_of s es ts ≡ (m.done ++ (p ∷ [])) ++ rest
    whole = (done_next m.state d x f).same

    bytes_left : length (stream_bytes (bytes_of m.done)) + length p.bytes ≤ length (stream_bytes (bytes_of (merged_of s es ts)))
    bytes_left =
        omega (arith, ap (λ y. length (stream_bytes (bytes_of y))) whole, stream-split (m.done ++ (p ∷ [])) rest, stream-length m.done p)

    count_left : length m.done < length (merged_of s es ts)
    count_left = omega (arith, ap length whole, length-append (m.done ++ (p ∷ [])) rest, length-append m.done (p ∷ []))

    pub put-room : PieceRoom s es first at b o w
    put-room = record { all = done-piece m.state d x f; room = omega (arith, bytes_left, m.room.bytes, m.wrote.next, m.long) }

    pub put-slots : (u < length e) × (u < length t)
    put-slots = (omega (arith, count_left, m.count, m.room.ends, m.long-ends), omega (arith, count_left, m.count, m.room.times, m.long-times))

    module _ {v : ℕ} {o' : List ℕ} (y : Wrote o w (piece (listed s es) first at b) v o') where
      pub put_small : v ≤ limit
      put_small = omega (arith, bytes_left, m.room.small, m.wrote.next, y.next)

      pub put_next : Putting s es ts o₀ e₀ t₀ b d v (u + 1) o' (set e u v) (set t u (get_or ts at 0))
      put_next =
          let es₀ = ends_of 0 (bytes_of m.done) in
          let ts₀ = times_of m.done in
          let le : u ≡ 0 + length es₀ = omega (arith, m.count, ends-length 0 (bytes_of m.done), length-bytes_of m.done) in
          let lt : u ≡ 0 + length ts₀ = omega (arith, m.count, times-length m.done) in
          let lv : v ≡ 0 + length (stream_bytes (bytes_of m.done)) + length p.bytes = omega (arith, m.wrote.next, y.next) in
          let slots = put-slots in
          record {
            room = m.room;
            done = m.done ++ (p ∷ []);
            state = done_next m.state d x f;
            count = omega (arith, m.count, length-append m.done (p ∷ []));
            wrote = rw (stream-more m.done p) (wrote-more m.wrote (omega arith) y);
            ends =
                ap₂ (λ g j. set g j v) m.ends le ∙ pasted-set e₀ 0 es₀ v (omega (arith, slots.0, m.long-ends))
                ∙ ap (λ k. pasted e₀ 0 (es₀ ++ (k ∷ []))) lv ∙ ap (pasted e₀ 0) (sym (out-ends-more m.done p));
            times =
                ap₂ (λ g j. set g j (get_or ts at 0)) m.times lt ∙ pasted-set t₀ 0 ts₀ (get_or ts at 0) (omega (arith, slots.1, m.long-times))
                ∙ ap (pasted t₀ 0) (sym (times_more m.done p));
            long = wrote-length y put-room.room ∙ m.long;
            long-ends = length-set e u v ∙ m.long-ends;
            long-times = length-set t u (get_or ts at 0) ∙ m.long-times;
          }

-- ---- the walk over them

-- the unit that closes behind an output packet is one of those left
pub among : (us : List (List ℕ)) (c : ℕ) {n b : ℕ} (o : Option ℕ) → NextClose us (c + 1) o → length us ≡ n → b ≡ stop_of o (c + 1) n → Among b n o
among us c None m e q = tt
among us c (Some d) m e q = (omega (arith, m.0.order), omega (arith, m.1))

-- and it takes a packet at least
pub past : (c : ℕ) {n b : ℕ} (o : Option ℕ) → c < n → b ≡ stop_of o (c + 1) n → c < b
past c None l q = omega arith
past c (Some d) l q = omega arith
