-- 'Lists of calls' of document 01, and demand 3 over every list of open, seek and row: each call with what it was handed and what it gave, tied to the code by the records that the contracts are. Definitions only.
use Rattle.std.specs.Prelude.{◌≡◌, Bool, false, cond, List, [], ◌∷◌, ℕ, ◌+◌, ◌-◌, ◌/◌, ◌≤◌, ◌<◌, min, max, T, take, get_or, Float}
use Rattle.std.specs.Float.Ieee.{le, is_nan}
use Rattle.laws.specs.Floats.{f32}
use Rattle.laws.specs.Refusals.{accepted}
use Rattle.image.specs.Samples.{sample_at}
use Rattle.image.specs.declared.chroma.Chroma.{Chroma}
use Rattle.image.specs.declared.chroma.Chroma.TheVariants.{Cb, Cr}
use Rattle.image.specs.Picture.{Picture, chroma_plane, picture_of, SameButRange, Planes}
use Rattle.guided.specs.declared.state.Reader.{Reader}
use Rattle.guided.specs.Calls.{Reply, OpenCall, SeekCall, RowCall, OpenGiven, SeekGiven, RowGiven}
use Rattle.guided.specs.Guided.{guided_row}

-- ---- events

pub record RowEvent : Type 0 where
  pub call : RowCall
  pub reply : Reply
  pub scratch : List Float
  pub out_cb : List Float
  pub out_cr : List Float

pub data Event : Type 0 where
  Opened : OpenCall → Reply → Event
  Sought : SeekCall → Reply → Event
  Rowed : RowEvent → Event

-- a row call, or W14's blend, which "counts as a row call whose Cb and Cr go to the kernel instead of out, accepted or refused as it is answered": what row's contract says, where it was accepted.
-- Of a refused one nothing is claimed: a blend may be refused for the other reader's sake, where a row call would not be
unfoldable pub RanRow : RowEvent → Type 0
RanRow e = T (accepted e.reply.answer) → RowGiven e.call e.reply e.scratch e.out_cb e.out_cr

-- the event is one of the code's: its contract holds of it
unfoldable pub Ran : Event → Type 0
Ran (Opened o r) = OpenGiven o r
Ran (Sought k r) = SeekGiven k r
Ran (Rowed e) = RanRow e

unfoldable pub AllRan : List Event → Type 0
AllRan [] = Unit {0}
AllRan (e ∷ es) = Ran e × AllRan es

-- "A call is accepted when its answer is no refusal."
unfoldable pub done : Event → Bool
done (Opened o r) = accepted r.answer
done (Sought k r) = accepted r.answer
done (Rowed e) = accepted e.reply.answer

-- ---- the current picture

-- since an accepted open: that open, and the state and scratch as the accepted calls since, that open included, left them
pub record Since : Type 0 where
  pub by : OpenCall
  pub reader : Reader
  pub scratch : List Float

-- "at the start there is no picture"
pub data Course : Type 0 where
  Start : Course
  After : Since → Course

-- "An accepted open makes its picture current"
abbrev pub picture_by : OpenCall → Picture
picture_by o = picture_of o.layout o.planes

-- what an accepted call makes of it
unfoldable pub moved : Course → Event → Course
moved t (Opened o r) = After (record { by = o; reader = r.reader; scratch = o.scratch })
moved Start (Sought k r) = Start
moved Start (Rowed e) = Start
moved (After s) (Sought k r) = After (record { by = s.by; reader = r.reader; scratch = s.scratch })
moved (After s) (Rowed e) = After (record { by = s.by; reader = e.reply.reader; scratch = e.scratch })

-- "Every other call, a refused open too, leaves the current picture as it is."
unfoldable pub next : Course → Event → Course
next t e = cond (done e) (moved t e) t

-- ---- the premise: "the next accepted seek or row call still gets what the accepted calls left"

-- the planes hold the picture's samples; padding, surplus and strides don't matter
pub record Shows (p : Picture) (ps : Planes) : Type 0 where
  pub luma : (x y : ℕ) → x < p.layout.w → y < p.layout.h → sample_at p.layout.sample_bytes ps.y y x ≡ p.luma y x
  pub chroma : (k : Chroma) (x y : ℕ) → x < p.layout.cw → y < p.layout.ch → sample_at p.layout.sample_bytes (chroma_plane ps k) y x ≡ p.chroma k y x

unfoldable pub Handed : Course → Event → Type 0
Handed Start e = Unit {0}
Handed (After s) (Opened o r) = Unit {0}
Handed (After s) (Sought k r) = k.reader ≡ s.reader
Handed (After s) (Rowed e) = Shows (picture_by s.by) e.call.planes × (e.call.reader ≡ s.reader) × (e.call.scratch ≡ s.scratch)

unfoldable pub Premise : Course → List Event → Type 0
Premise t [] = Unit {0}
Premise t (e ∷ es) = (T (done e) → Handed t e) × Premise (next t e) es

-- ---- rows given

-- over the list, from t on, the row call of e is accepted, and o is the latest accepted open before it
pub data Gives (o : OpenCall) (e : RowEvent) : Course → List Event → Type 0 where
  here : {s : Since} {es : List Event} → T (done (Rowed e)) → s.by ≡ o → Gives o e (After s) (Rowed e ∷ es)
  later : {t : Course} {d : Event} {es : List Event} → Gives o e (next t d) es → Gives o e t (d ∷ es)

-- "A row given is the first w values of each output, Cb and Cr, as an accepted row call leaves them"
unfoldable pub out_of : RowEvent → Chroma → List Float
out_of e Cb = e.out_cb
out_of e Cr = e.out_cr

unfoldable pub given : OpenCall → RowEvent → Chroma → List Float
given o e k = take o.layout.w (out_of e k)

-- ---- extremes and nearness

-- three neighbours of n, edges repeated, joined by op
unfoldable pub three_n : (ℕ → ℕ → ℕ) → ℕ → (ℕ → ℕ) → ℕ → ℕ
three_n op n f i = op (op (f (i - 1)) (f i)) (f (min (i + 1) (n - 1)))

-- "the 3 by 3 extremes": op is min or max, over the nine cells round cell i of row j, "of the sample's own plane"
unfoldable pub nine : (ℕ → ℕ → ℕ) → Picture → Chroma → ℕ → ℕ → ℕ
nine op p k j i = three_n op p.layout.ch (λ r. three_n op p.layout.cw (λ q. p.chroma k r q) i) j

unfoldable pub Within : Picture → Chroma → ℕ → ℕ → Float → Type 0
Within p k j i v = T (le (f32 (nine min p k j i)) v) × T (le v (f32 (nine max p k j i)))

-- "More than two cells away is more than two across or more than two down": a and b are no more than two apart
abbrev pub Near : ℕ → ℕ → Type 0
Near a b = (a ≤ b + 2) × (b ≤ a + 2)

-- pictures alike but for what is more than two cells from cell i of chroma row j: "Luma counts with its pixel's cell"; "Reconstructed samples don't depend on the range", so that it may differ too
pub record AlikeNear (p q : Picture) (j i : ℕ) : Type 0 where
  pub layout : SameButRange p.layout q.layout
  pub luma : (x y : ℕ) → x < p.layout.w → y < p.layout.h → Near (x / p.layout.rh) i → Near (y / p.layout.rv) j → p.luma y x ≡ q.luma y x
  pub chroma : (k : Chroma) (x y : ℕ) → x < p.layout.cw → y < p.layout.ch → Near x i → Near y j → p.chroma k y x ≡ q.chroma k y x

-- ---- demand 3

-- a list of the code's events that meets the premise, over which the row e is given while the picture of o is current
pub record Run (o : OpenCall) (e : RowEvent) (es : List Event) : Type 0 where
  pub ran : AllRan es
  pub premise : Premise Start es
  pub gives : Gives o e Start es

pub record Demand3 : Type 0 where
  -- each row given is the guided row of the current picture and row number alone
  pub guided : (o : OpenCall) (e : RowEvent) (es : List Event) → Run o e es → (k : Chroma) → given o e k ≡ guided_row (picture_by o) k e.call.y
  -- lies within the 3 by 3 extremes round its own cell
  pub within : (o : OpenCall) (e : RowEvent) (es : List Event) → Run o e es
      → (k : Chroma) (x : ℕ) → x < o.layout.w → Within (picture_by o) k (e.call.y / o.layout.rv) (x / o.layout.rh) (get_or (given o e k) x (f32 0))
  -- is no not-a-number, so that `≡` above is the same bits
  pub bits : (o : OpenCall) (e : RowEvent) (es : List Event) → Run o e es → (k : Chroma) (x : ℕ) → x < o.layout.w → is_nan (get_or (given o e k) x (f32 0)) ≡ false
  -- and does not depend on anything more than two cells away, over any two lists
  pub local : (o u : OpenCall) (e d : RowEvent) (es ds : List Event) → Run o e es → Run u d ds → e.call.y ≡ d.call.y
      → (k : Chroma) (x : ℕ) → x < o.layout.w → AlikeNear (picture_by o) (picture_by u) (e.call.y / o.layout.rv) (x / o.layout.rh)
      → get_or (given o e k) x (f32 0) ≡ get_or (given u d k) x (f32 0)
