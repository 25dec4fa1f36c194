-- Where things lie in scratch: the finished rows, the detail and 35 row buffers, one behind another and apart, all within what a call is lent.
-- Everything is arithmetic over multiples of the pitch. The hard step is `pitch_room`: rows of 256 cells and more are padded by what scratch
-- leaves to each of 35 buffers, 48 at most, and a row has no more cells than pixels.
use Rattle.std.proofs.Common.{◌≡◌, refl, ◌∙◌, ◌≢◌, ◌⊎◌, inl, inr, Bool, true, false, cond, List, ℕ, ◌+◌, ◌-◌, ◌*◌, ◌/◌, ◌%◌, ◌≤◌, ◌<◌, min, le_trans, arith, leb, lit≤, length, get_or, Float}
use native.Mathlib.Decide.{dec_lt}
use lib.Ieee.{nan}
use Rattle.laws.specs.Lists.{put}
use Rattle.laws.proofs.Lists.{length_put, put_before, put_inside, put_after}
use Rattle.laws.proofs.Rows.{row_fits}
use Rattle.image.specs.declared.layout.Layout.{Layout}
use Rattle.image.specs.declared.chroma.Chroma.{Chroma}
use Rattle.image.specs.declared.chroma.Chroma.TheVariants.{Cb, Cr}
use Rattle.image.specs.Scratch.{scratch_need, cell_at}
use Rattle.guided.specs.Scratch.{finished_at, detail_at, pitch, buffer_at, slot_at, result_at, first_of, column_at}

-- ---- the places

-- what a call is lent, and that cells are no more than pixels
abbrev pub Room : Layout → List Float → Type 0
Room l xs = (scratch_need l ≤ length xs) × (l.cw ≤ l.w)

-- a pitch holds a row of cells
pub pitch_least : (l : Layout) → l.cw ≤ pitch l
unfolding pitch
pitch_least l = go (leb 256 l.cw)
  where
    go : (b : Bool) → l.cw ≤ cond b (l.cw + min 48 ((5 * l.w - 3 * l.cw) / 35)) l.cw
    go true = omega arith
    go false = omega arith

-- and 35 of them fit
pub pitch_room : (l : Layout) → l.cw ≤ l.w → 35 * pitch l ≤ 32 * l.cw + 5 * l.w
unfolding pitch
pitch_room l c = go (leb 256 l.cw)
  where
    go : (b : Bool) → 35 * cond b (l.cw + min 48 ((5 * l.w - 3 * l.cw) / 35)) l.cw ≤ 32 * l.cw + 5 * l.w
    go true = omega arith
    go false = omega arith

-- a component's first buffer has number 3 or 5
pub first_few : (k : Chroma) → (3 ≤ first_of k) × (first_of k ≤ 5)
first_few Cb = (lit≤ tt, lit≤ tt)
first_few Cr = (lit≤ tt, lit≤ tt)

-- a buffer ends before the next begins
pub buffers_apart : (l : Layout) (m n : ℕ) → m < n → buffer_at l m + l.cw ≤ buffer_at l n
unfolding buffer_at
buffers_apart l m n h = omega (arith, pitch_least l, row_fits m n (pitch l) h)

-- buffers 0 to 34 lie within what a call is lent
pub buffer_fits : (l : Layout) (n : ℕ) → n < 35 → l.cw ≤ l.w → buffer_at l n + l.cw ≤ scratch_need l
unfolding buffer_at scratch_need
buffer_fits l n h c = omega (arith, pitch_least l, pitch_room l c, row_fits n 35 (pitch l) h)

-- they lie behind the finished rows and the detail
pub buffer_behind : (l : Layout) (n : ℕ) → 3 * l.w ≤ buffer_at l n
unfolding buffer_at
buffer_behind l n = omega arith

-- the detail lies behind both finished rows and before every buffer
pub detail_place : (l : Layout) → (2 * l.w ≤ detail_at l) × (detail_at l + l.w ≤ 3 * l.w)
unfolding detail_at
detail_place l = (omega arith, omega arith)

-- both finished rows lie before the detail
pub finished_place : (l : Layout) (k : Chroma) → finished_at l k + l.w ≤ 2 * l.w
unfolding finished_at
finished_place l Cb = omega arith
finished_place l Cr = omega arith

-- and apart from each other
pub finished_apart : (l : Layout) → finished_at l Cb + l.w ≤ finished_at l Cr
unfolding finished_at
finished_apart l = omega arith

-- the finished rows and the detail lie within what a call is lent
pub front_fits : (l : Layout) → 3 * l.w ≤ scratch_need l
unfolding scratch_need
front_fits l = omega arith

-- the window's buffers are the first 33
pub slot_number : (n r : ℕ) → n < 7 → r % 3 * 7 + n < 33
slot_number n r h = omega arith

pub result_number : (n r : ℕ) → n < 6 → 21 + (r % 2 * 6 + n) < 33
result_number n r h = omega arith

-- two buffers are apart, whichever comes first
pub buffers_disjoint : (l : Layout) (m n : ℕ) → m ≢ n → (buffer_at l m + l.cw ≤ buffer_at l n) ⊎ (buffer_at l n + l.cw ≤ buffer_at l m)
buffers_disjoint l m n d = elim (dec_lt m n) [ yes h ↦ inl (buffers_apart l m n h) | no h ↦ inr (buffers_apart l n m (above h d)) ]
  where
    above : ¬ (m < n) → m ≢ n → n < m
    above h d = omega arith

-- the buffers of a slot: behind the detail, in order, before the columns, and within what is lent
pub slot_behind : (l : Layout) (n r : ℕ) → 3 * l.w ≤ slot_at l n r
unfolding slot_at
slot_behind l n r = buffer_behind l (r % 3 * 7 + n)

pub slot_order : (l : Layout) (m n r : ℕ) → m < n → slot_at l m r + l.cw ≤ slot_at l n r
unfolding slot_at
slot_order l m n r h = buffers_apart l (r % 3 * 7 + m) (r % 3 * 7 + n) (omega arith)

pub slot_column : (l : Layout) (n r m : ℕ) → n < 7 → slot_at l n r + l.cw ≤ column_at l m
unfolding slot_at column_at
slot_column l n r m h = buffers_apart l (r % 3 * 7 + n) (33 + m) (omega arith)

pub slot_fits : (l : Layout) (n r : ℕ) → n < 7 → l.cw ≤ l.w → slot_at l n r + l.cw ≤ scratch_need l
unfolding slot_at
slot_fits l n r h c = buffer_fits l (r % 3 * 7 + n) (omega arith) c

-- the buffers of results: behind every slot's, before the columns, and within what is lent
pub slot_result : (l : Layout) (n r m j : ℕ) → n < 7 → slot_at l n r + l.cw ≤ result_at l m j
unfolding slot_at result_at
slot_result l n r m j h = buffers_apart l (r % 3 * 7 + n) (21 + (j % 2 * 6 + m)) (omega arith)

pub result_column : (l : Layout) (n r m : ℕ) → n < 6 → result_at l n r + l.cw ≤ column_at l m
unfolding result_at column_at
result_column l n r m h = buffers_apart l (21 + (r % 2 * 6 + n)) (33 + m) (omega arith)

pub result_fits : (l : Layout) (n r : ℕ) → n < 6 → l.cw ≤ l.w → result_at l n r + l.cw ≤ scratch_need l
unfolding result_at
result_fits l n r h c = buffer_fits l (21 + (r % 2 * 6 + n)) (omega arith) c

-- buffers of two slots are apart, whichever comes first
pub slots_disjoint : (l : Layout) (m r n j : ℕ) → r % 3 * 7 + m ≢ j % 3 * 7 + n → (slot_at l m r + l.cw ≤ slot_at l n j) ⊎ (slot_at l n j + l.cw ≤ slot_at l m r)
unfolding slot_at
slots_disjoint l m r n j d = buffers_disjoint l (r % 3 * 7 + m) (j % 3 * 7 + n) d

-- the columns: behind the detail, in order, and within what is lent
pub column_behind : (l : Layout) (n : ℕ) → 3 * l.w ≤ column_at l n
unfolding column_at
column_behind l n = buffer_behind l (33 + n)

pub column_order : (l : Layout) (m n : ℕ) → m < n → column_at l m + l.cw ≤ column_at l n
unfolding column_at
column_order l m n h = buffers_apart l (33 + m) (33 + n) (omega arith)

pub column_fits : (l : Layout) (n : ℕ) → n < 2 → l.cw ≤ l.w → column_at l n + l.cw ≤ scratch_need l
unfolding column_at
column_fits l n h c = buffer_fits l (33 + n) (omega arith) c

-- ---- a row put, then read

module _ (l : Layout) (xs : List Float) where
  -- a buffer holds what was put there
  pub buffer_same : (n : ℕ) (f : ℕ → Float) (i : ℕ) → n < 35 → i < l.cw → Room l xs → cell_at (put xs (buffer_at l n) l.cw f) (buffer_at l n) i ≡ f i
  buffer_same n f i h k s = put_inside xs (buffer_at l n) l.cw f i nan k (le_trans (buffer_fits l n h s.1) s.0)

  -- a put at one buffer leaves the others
  pub buffer_other : (n m : ℕ) (f : ℕ → Float) (i : ℕ) → i < l.cw → m ≢ n → cell_at (put xs (buffer_at l n) l.cw f) (buffer_at l m) i ≡ cell_at xs (buffer_at l m) i
  buffer_other n m f i k d =
      elim (buffers_disjoint l m n d) [
        | inl h ↦ put_before xs (buffer_at l n) l.cw f (buffer_at l m + i) nan (omega arith)
        | inr h ↦ put_after xs (buffer_at l n) l.cw f (buffer_at l m + i) nan (omega arith)
      ]

  -- the same of a slot's buffers
  pub slot_same : (n r : ℕ) (f : ℕ → Float) (i : ℕ) → n < 7 → i < l.cw → Room l xs → cell_at (put xs (slot_at l n r) l.cw f) (slot_at l n r) i ≡ f i
  unfolding slot_at
  slot_same n r f i h k s = buffer_same (r % 3 * 7 + n) f i (omega arith) k s

  pub slot_other : (n j m r : ℕ) (f : ℕ → Float) (i : ℕ) → i < l.cw → r % 3 * 7 + m ≢ j % 3 * 7 + n → cell_at (put xs (slot_at l n j) l.cw f) (slot_at l m r) i ≡ cell_at xs (slot_at l m r) i
  unfolding slot_at
  slot_other n j m r f i k d = buffer_other (j % 3 * 7 + n) (r % 3 * 7 + m) f i k d

  -- and of results'
  pub result_same : (n r : ℕ) (f : ℕ → Float) (i : ℕ) → n < 6 → i < l.cw → Room l xs → cell_at (put xs (result_at l n r) l.cw f) (result_at l n r) i ≡ f i
  unfolding result_at
  result_same n r f i h k s = buffer_same (21 + (r % 2 * 6 + n)) f i (omega arith) k s

  pub result_other : (n j m r : ℕ) (f : ℕ → Float) (i : ℕ) → i < l.cw → r % 2 * 6 + m ≢ j % 2 * 6 + n → cell_at (put xs (result_at l n j) l.cw f) (result_at l m r) i ≡ cell_at xs (result_at l m r) i
  unfolding result_at
  result_other n j m r f i k d = buffer_other (21 + (j % 2 * 6 + n)) (21 + (r % 2 * 6 + m)) f i k (λ e. d (omega arith))

  -- a result put leaves every slot
  pub result_slot : (n j m r : ℕ) (f : ℕ → Float) (i : ℕ) → m < 7 → i < l.cw → cell_at (put xs (result_at l n j) l.cw f) (slot_at l m r) i ≡ cell_at xs (slot_at l m r) i
  unfolding result_at slot_at
  result_slot n j m r f i h k = buffer_other (21 + (j % 2 * 6 + n)) (r % 3 * 7 + m) f i k (λ e. absurd (omega arith))

  -- a put at a buffer leaves the finished rows and the detail
  pub buffer_front : (n : ℕ) (f : ℕ → Float) (k : ℕ) → k < 3 * l.w → get_or (put xs (buffer_at l n) l.cw f) k nan ≡ get_or xs k nan
  buffer_front n f k h = put_before xs (buffer_at l n) l.cw f k nan (omega (arith, buffer_behind l n))

  -- a put among those leaves the buffers
  pub front_buffer : (at n : ℕ) (f : ℕ → Float) (m i : ℕ) → at + n ≤ 3 * l.w → cell_at (put xs at n f) (buffer_at l m) i ≡ cell_at xs (buffer_at l m) i
  front_buffer at n f m i h = put_after xs at n f (buffer_at l m + i) nan (omega (arith, buffer_behind l m))

  -- a finished row put leaves the detail
  pub finished_detail : (k : Chroma) (f : ℕ → Float) (x : ℕ) → cell_at (put xs (finished_at l k) l.w f) (detail_at l) x ≡ cell_at xs (detail_at l) x
  finished_detail k f x = put_after xs (finished_at l k) l.w f (detail_at l + x) nan (omega (arith, finished_place l k, (detail_place l).0))

  -- a finished row put is the one asked for, or it leaves that one
  pub finished_other : (k m : Chroma) (f : ℕ → Float) (x : ℕ) → x < l.w → (k ≡ m) ⊎ (cell_at (put xs (finished_at l k) l.w f) (finished_at l m) x ≡ cell_at xs (finished_at l m) x)
  finished_other Cb Cb f x h = inl refl
  finished_other Cr Cr f x h = inl refl
  finished_other Cb Cr f x h = inr (put_after xs (finished_at l Cb) l.w f (finished_at l Cr + x) nan (omega (arith, finished_apart l)))
  finished_other Cr Cb f x h = inr (put_before xs (finished_at l Cr) l.w f (finished_at l Cb + x) nan (omega (arith, finished_apart l)))

  -- a put at a column is read there
  pub column_same : (n : ℕ) (f : ℕ → Float) (i : ℕ) → n < 2 → i < l.cw → Room l xs → cell_at (put xs (column_at l n) l.cw f) (column_at l n) i ≡ f i
  unfolding column_at
  column_same n f i h k s = buffer_same (33 + n) f i (omega arith) k s

  -- and leaves the other columns
  pub column_other : (n m : ℕ) (f : ℕ → Float) (i : ℕ) → i < l.cw → m ≢ n → cell_at (put xs (column_at l n) l.cw f) (column_at l m) i ≡ cell_at xs (column_at l m) i
  unfolding column_at
  column_other n m f i k d = buffer_other (33 + n) (33 + m) f i k (λ e. d (omega arith))

  -- and the finished rows and the detail
  pub column_front : (n : ℕ) (f : ℕ → Float) (k : ℕ) → k < 3 * l.w → get_or (put xs (column_at l n) l.cw f) k nan ≡ get_or xs k nan
  unfolding column_at
  column_front n f k h = buffer_front (33 + n) f k h

-- ---- what a picture row leaves of the window

-- ys is as long as xs and the same in the first 33 buffers
pub record Kept (l : Layout) (xs ys : List Float) : Type 0 where
  pub len : length ys ≡ length xs
  pub slots : (n i : ℕ) → n < 33 → i < l.cw → cell_at ys (buffer_at l n) i ≡ cell_at xs (buffer_at l n) i

-- one after the other
pub kept_then : (l : Layout) (xs ys zs : List Float) → Kept l xs ys → Kept l ys zs → Kept l xs zs
kept_then l xs ys zs a b = record { len = b.len ∙ a.len; slots = λ n i h k. b.slots n i h k ∙ a.slots n i h k }

-- a column put keeps the window, and so does a put among the finished rows and the detail
pub kept_column : (l : Layout) (xs : List Float) (n : ℕ) (f : ℕ → Float) → Kept l xs (put xs (column_at l n) l.cw f)
unfolding column_at
kept_column l xs n f = record { len = length_put xs (buffer_at l (33 + n)) l.cw f; slots = λ m i h k. buffer_other l xs (33 + n) m f i k (omega arith) }

pub kept_front : (l : Layout) (xs : List Float) (at n : ℕ) (f : ℕ → Float) → at + n ≤ 3 * l.w → Kept l xs (put xs at n f)
kept_front l xs at n f h = record { len = length_put xs at n f; slots = λ m i _ _. front_buffer l xs at n f m i h }
