-- What a layout is whose tests all failed: `shaped` takes the tests apart by `neither` (an 'or' that is false has both sides false) and reads
-- each side as a bound. The facts about cw and ch follow from Quotients, since test 5 says that they are the rounded-up quotients. `sound` is its
-- case of numerator 1.
use Rattle.std.proofs.Common.{◌≡◌, refl, sym, ap, ◌∙◌, Bool, true, false, true≢false, ◌&&◌, ◌||◌, not, cond, ℕ, suc, ◌+◌, ◌-◌, ◌*◌, ◌≤◌, ◌<◌, mul-le-mul, mul-le-mul_left, mul-pos, mul-one, le_trans, le-div_iff_mul-le, suc-mul, arith, eqb, eqb-true, Ok, Err, is_err}
use borrow.Author.Tests.{not-false}
use Rattle.laws.specs.Refusals.{Answer, first, accepted, place_of, Ascending}
use Rattle.laws.proofs.Refusals.{Failed, accepted_failed, accepted_is}
pub use Rattle.laws.proofs.Limits.{neither, within}
use Rattle.laws.specs.Numbers.{outside_of}
use Rattle.laws.specs.Axes.{plain}
use Rattle.laws.specs.declared.axes.Siting.{Siting}
use Rattle.laws.specs.declared.axes.Siting.TheVariants.{Centred, CoSited}
use Rattle.laws.specs.declared.axes.Axis.{Axis}
use Rattle.image.specs.declared.layout.Layout.{Layout}
use Rattle.image.specs.Tests.{most_of, div_ceil, bad_size, bad_pair, bad_ratio, bad_samples, bad_chroma, co_sited, bad_siting, tests_for, layout_tests}
use Rattle.image.specs.Inner.Tests.{Shaped, Sound}
use Rattle.image.proofs.Quotients.{ceil_covers, ceil_within, ceil_some}

most_small : (b m : ℕ) → m ≤ most_of b → m ≤ 65535
most_small b m h = go (eqb b 1) h
  where
    go : (t : Bool) → m ≤ cond t 255 65535 → m ≤ 65535
    go true h = omega arith
    go false h = h

pub size_passed : (l : Layout) → bad_size l ≡ false → ((1 ≤ l.w) × (l.w ≤ 8192)) × ((1 ≤ l.h) × (l.h ≤ 8192))
unfolding bad_size
size_passed l e = let p = neither (outside_of 1 8192 l.w) (outside_of 1 8192 l.h) e in (within 1 8192 l.w p.0, within 1 8192 l.h p.1)

-- what is known of an axis and its ratio
pub record Pair (whole : Bool) (a : Axis) (r : ℕ) : Type 0 where
  pub r_some : 1 ≤ r
  pub r_most : r ≤ 4
  pub num_some : 1 ≤ a.num
  pub num_top : a.num ≤ cond whole 1 r

pair_passed : (whole : Bool) (a : Axis) (r : ℕ) → bad_pair whole a r ≡ false → Pair whole a r
pair_passed whole a r e =
    let p = neither (outside_of 1 4 r) (outside_of 1 (cond whole 1 r) a.num) e in
    let q = within 1 4 r p.0 in
    let n = within 1 (cond whole 1 r) a.num p.1 in
    record { r_some = q.0; r_most = q.1; num_some = n.0; num_top = n.1 }

-- the numerator is at most the ratio
pub pair_most : (whole : Bool) (a : Axis) (r : ℕ) → Pair whole a r → a.num ≤ r
pair_most true a r p = le_trans p.num_top p.r_some
pair_most false a r p = p.num_top

pub pair_one : {a : Axis} {r : ℕ} → Pair true a r → a.num ≡ 1
pair_one {a} {r} p = omega (arith, p.num_some, p.num_top)

pub ratio_passed : (whole : Bool) (l : Layout) → bad_ratio whole l ≡ false → Pair whole l.across l.rh × Pair whole l.down l.rv
unfolding bad_ratio
ratio_passed whole l e =
    let p = neither (bad_pair whole l.across l.rh) (bad_pair whole l.down l.rv) e in
    (pair_passed whole l.across l.rh p.0, pair_passed whole l.down l.rv p.1)

samples_passed : (fixed : Bool) (l : Layout) → bad_samples fixed l ≡ false → ((1 ≤ l.sample_bytes) × (l.sample_bytes ≤ 2)) × ((1 ≤ l.maxval) × (l.maxval ≤ 65535))
unfolding bad_samples
samples_passed fixed l e =
    let b = l.sample_bytes in
    let m = l.maxval in
    let p = neither (outside_of 1 2 b || outside_of 1 (most_of b) m) (fixed && not (eqb m 255)) e in
    let q = neither (outside_of 1 2 b) (outside_of 1 (most_of b) m) p.0 in
    let r = within 1 (most_of b) m q.1 in
    (within 1 2 b q.0, (r.0, most_small b m r.1))

chroma_passed : (l : Layout) → bad_chroma l ≡ false → (l.cw ≡ div_ceil (l.w * l.across.num) l.rh) × (l.ch ≡ div_ceil (l.h * l.down.num) l.rv)
unfolding bad_chroma
chroma_passed l e =
    let a = div_ceil (l.w * l.across.num) l.rh in
    let b = div_ceil (l.h * l.down.num) l.rv in
    let p = neither (not (eqb l.cw a)) (not (eqb l.ch b)) e in
    (eqb-true l.cw a (not-false _ p.0), eqb-true l.ch b (not-false _ p.1))

pub shaped : (whole fixed : Bool) (l : Layout) → Failed (tests_for whole fixed l) → Shaped l
unfolding tests_for
shaped whole fixed l f =
    let s = size_passed l f.0 in
    let r = ratio_passed whole l f.1.0 in
    let b = samples_passed fixed l f.1.1.0 in
    let c = chroma_passed l f.1.1.1.1.0 in
    let cw = c.0 in
    let ch = c.1 in
    let x = pair_most whole l.across l.rh r.0 in
    let y = pair_most whole l.down l.rv r.1 in
    record {
      w_some = s.0.0;
      w_most = s.0.1;
      h_some = s.1.0;
      h_most = s.1.1;
      rh_some = r.0.r_some;
      rh_most = r.0.r_most;
      rv_some = r.1.r_some;
      rv_most = r.1.r_most;
      across_some = r.0.num_some;
      across_most = x;
      down_some = r.1.num_some;
      down_most = y;
      bytes_some = b.0.0;
      bytes_most = b.0.1;
      maxval_some = b.1.0;
      maxval_most = b.1.1;
      cw_is = cw;
      ch_is = ch;
      cw_some = rw cw (ceil_some (l.w * l.across.num) l.rh r.0.r_some (mul-pos s.0.0 r.0.num_some));
      cw_most = rw cw (ceil_within (l.w * l.across.num) l.rh l.w r.0.r_some (mul-le-mul_left l.w x));
      ch_some = rw ch (ceil_some (l.h * l.down.num) l.rv r.1.r_some (mul-pos s.1.0 r.1.num_some));
      ch_most = rw ch (ceil_within (l.h * l.down.num) l.rv l.h r.1.r_some (mul-le-mul_left l.h y));
      cells = rw cw (ceil_covers (l.w * l.across.num) l.rh r.0.r_some);
      lines = rw ch (ceil_covers (l.h * l.down.num) l.rv r.1.r_some);
    }

-- by one, written out or not
by_one : (n a : ℕ) → a ≡ 1 → n * a ≡ n
by_one n a e = ap (λ (x : ℕ). n * x) e ∙ mul-one n

-- whole ratios are the case of numerator 1
pub whole_sound : {l : Layout} → Shaped l → l.across.num ≡ 1 → l.down.num ≡ 1 → Sound l
whole_sound {l} s a d =
    let x : l.w * l.across.num ≡ l.w = by_one l.w l.across.num a in
    let y : l.h * l.down.num ≡ l.h = by_one l.h l.down.num d in
    record {
      w_some = s.w_some;
      w_most = s.w_most;
      h_some = s.h_some;
      h_most = s.h_most;
      rh_some = s.rh_some;
      rh_most = s.rh_most;
      rv_some = s.rv_some;
      rv_most = s.rv_most;
      bytes_some = s.bytes_some;
      bytes_most = s.bytes_most;
      maxval_some = s.maxval_some;
      maxval_most = s.maxval_most;
      cw_is = s.cw_is ∙ ap (λ (n : ℕ). div_ceil n l.rh) x;
      ch_is = s.ch_is ∙ ap (λ (n : ℕ). div_ceil n l.rv) y;
      cw_some = s.cw_some;
      cw_most = s.cw_most;
      ch_some = s.ch_some;
      ch_most = s.ch_most;
      across_one = a;
      down_one = d;
      cells = omega (arith, x, s.cells);
      lines = omega (arith, y, s.lines);
    }

pub sound : (fixed : Bool) (l : Layout) → Failed (layout_tests fixed l) → Sound l
unfolding tests_for
sound fixed l f =
    let r = ratio_passed true l f.1.0 in
    whole_sound (shaped true fixed l f) (pair_one r.0) (pair_one r.1)

-- and whole ratios are pairs
pub sound_shaped : {l : Layout} → Sound l → Shaped l
sound_shaped {l} s =
    let a = s.across_one in
    let d = s.down_one in
    let x : l.w ≡ l.w * l.across.num = sym (by_one l.w l.across.num a) in
    let y : l.h ≡ l.h * l.down.num = sym (by_one l.h l.down.num d) in
    record {
      w_some = s.w_some;
      w_most = s.w_most;
      h_some = s.h_some;
      h_most = s.h_most;
      rh_some = s.rh_some;
      rh_most = s.rh_most;
      rv_some = s.rv_some;
      rv_most = s.rv_most;
      across_some = omega (arith, a);
      across_most = omega (arith, a, s.rh_some);
      down_some = omega (arith, d);
      down_most = omega (arith, d, s.rv_some);
      bytes_some = s.bytes_some;
      bytes_most = s.bytes_most;
      maxval_some = s.maxval_some;
      maxval_most = s.maxval_most;
      cw_is = s.cw_is ∙ ap (λ (n : ℕ). div_ceil n l.rh) x;
      ch_is = s.ch_is ∙ ap (λ (n : ℕ). div_ceil n l.rv) y;
      cw_some = s.cw_some;
      cw_most = s.cw_most;
      ch_some = s.ch_some;
      ch_most = s.ch_most;
      cells = omega (arith, x, s.cells);
      lines = omega (arith, y, s.lines);
    }

-- the same of a layout whose answer is no refusal
pub sound_answer : (fixed : Bool) (l : Layout) → accepted (first (layout_tests fixed l)) ≡ true → Sound l
sound_answer fixed l e = sound fixed l (accepted_failed (layout_tests fixed l) (accepted_is (first (layout_tests fixed l)) e))

-- and of one that wasn't turned down
pub sound_unless : (l : Layout) (a : Answer) → a ≡ first (layout_tests false l) → is_err a ≡ false → Sound l
sound_unless l (Ok _) e h = sound false l (accepted_failed (layout_tests false l) (sym e))
sound_unless l (Err why) e h = let z : ◌≡◌ {A = Bool} true false = h in absurd (true≢false z)

-- ---- where ratios are whole and 16 does not apply both axes are plain

axis_plain : (a : Axis) → co_sited a.siting ≡ false → a.num ≡ 1 → a ≡ plain
axis_plain a e f = let s : a.siting ≡ Centred = centred a.siting e in λ i. record { siting = s i; num = f i }
  where
    centred : (s : Siting) → co_sited s ≡ false → s ≡ Centred
    centred Centred e = refl
    centred CoSited e = let z : ◌≡◌ {A = ℕ} 0 1 = cc in absurd (omega arith)

pub plain_axes : {l : Layout} → Sound l → bad_siting l ≡ false → (l.across ≡ plain) × (l.down ≡ plain)
unfolding bad_siting
plain_axes {l} s e =
    let p = neither (co_sited l.across.siting) (co_sited l.down.siting) e in
    (axis_plain l.across p.0 s.across_one, axis_plain l.down p.1 s.down_one)

-- the number of pixels is no product that wraps
pub shaped_area : {l : Layout} → Shaped l → l.w * l.h ≤ 67108864
shaped_area s = mul-le-mul s.w_most s.h_most

pub area : {l : Layout} → Sound l → l.w * l.h ≤ 67108864
area s = shaped_area (sound_shaped s)

-- a cell begins inside the picture
cell_begins : (n r i : ℕ) → 0 < r → i < div_ceil n r → i * r < n
unfolding div_ceil
cell_begins n r i p h = let k : suc i * r ≤ n + (r - 1) = (le-div_iff_mul-le p).0 h in omega (arith, suc-mul i r)

-- cell i of chroma row j begins inside the picture
pub record Begins (l : Layout) (j i : ℕ) : Type 0 where
  pub across : i * l.rh < l.w
  pub down : j * l.rv < l.h

pub begins : (l : Layout) → Sound l → (j i : ℕ) → j < l.ch → i < l.cw → Begins l j i
begins l o j i h k =
    record {
      across = cell_begins l.w l.rh i o.rh_some (rw o.cw_is at k);
      down = cell_begins l.h l.rv j o.rv_some (rw o.ch_is at h);
    }

-- the tests of a layout stand in the table's order
pub layout_ascends : (whole fixed : Bool) (l : Layout) → Ascending 0 (tests_for whole fixed l)
unfolding place_of Ascending tests_for
layout_ascends whole fixed l = (omega arith, (omega arith, (omega arith, (omega arith, (omega arith, tt)))))
