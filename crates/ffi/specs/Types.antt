-- What C's structs and numbers stand for. Definitions only.
use Rattle.std.specs.Prelude.{Bool, true, false, ◌||◌, cond, List, [], ◌∷◌, ℕ, eqb, ltb, get_or, Ok, Err}
use Rattle.std.specs.Float.{nan}
use Rattle.laws.specs.Refusals.{Answer, number_of}
use Rattle.laws.specs.declared.axes.Siting.{Siting}
use Rattle.laws.specs.declared.axes.Siting.TheVariants.{Centred, CoSited}
use Rattle.laws.specs.declared.axes.Axis.{Axis}
use Rattle.image.specs.declared.layout.Layout.{Layout}
use Rattle.image.specs.declared.layout.Range.{Range}
use Rattle.image.specs.declared.layout.Range.TheVariants.{Full, Studio}
use Rattle.image.specs.Samples.{plane_of}
use Rattle.image.specs.Picture.{Planes}
use Rattle.taps.specs.declared.phases.Phase.{Phase}
use Rattle.guided.specs.declared.state.Reader.{Reader}
use Rattle.guided.specs.Calls.{phase_in}
use Rattle.ffi.specs.declared.types.ChromaLayout.{ChromaLayout}
use Rattle.ffi.specs.declared.types.ChromaStrides.{ChromaStrides}
use Rattle.ffi.specs.declared.types.ChromaPhase.{ChromaPhase}
use Rattle.ffi.specs.declared.types.ChromaReader.{ChromaReader}

-- CHROMA_VERSION: 0.10.0 as major, minor and patch, a byte each
abbrev pub version : ℕ
version = 0x00_0a00

-- 0 for accepted, else the papers' number
abbrev pub answer_number : Answer → ℕ
answer_number (Ok _) = 0
answer_number (Err why) = number_of why

-- ---- layouts

-- a where the bool is true, else b
abbrev pub pick_siting : Bool → Siting → Siting → Siting
pick_siting true a b = a
pick_siting false a b = b

-- 0 centred, 1 co-sited; and the numerator
unfoldable pub as_axis : ℕ → ℕ → Axis
as_axis siting num = record { siting = pick_siting (eqb siting 1) CoSited Centred; num = num }

abbrev pub pick_range : Bool → Range → Range → Range
pick_range true a b = a
pick_range false a b = b

-- 0 full, 1 studio
unfoldable pub as_range : ℕ → Range
as_range n = pick_range (eqb n 1) Studio Full

unfoldable pub chroma_range : Range → ℕ
chroma_range Full = 0
chroma_range Studio = 1

-- a siting or a range that is neither 0 nor 1: no layout has this form
unfoldable pub strange_layout : ChromaLayout → Bool
strange_layout l = (ltb 1 l.siting_across || ltb 1 l.siting_down) || ltb 1 l.range

unfoldable pub as_layout : ChromaLayout → Layout
as_layout l = record { w = l.w; h = l.h; rh = l.rh; rv = l.rv; cw = l.cw; ch = l.ch; across = as_axis l.siting_across l.num_across; down = as_axis l.siting_down l.num_down; sample_bytes = l.sample_bytes; maxval = l.maxval; range = as_range l.range }

-- the planes that C lends as three slices beside their strides
unfoldable pub as_planes : List ℕ → List ℕ → List ℕ → ChromaStrides → Planes
as_planes y cb cr s = record { y = plane_of y s.y; cb = plane_of cb s.cb; cr = plane_of cr s.cr }

-- ---- the reader's state

unfoldable pub as_phase : ChromaPhase → Phase
as_phase p = record { left = eqb p.left 1; f = p.f }

unfoldable pub chroma_phase : Phase → ChromaPhase
chroma_phase p = record { left = cond p.left 1 0; f = p.f }

-- phase k of C's state; past the end of an array the machine reads 0 and nan
abbrev pub chroma_phase_in : ChromaReader → ℕ → ChromaPhase
chroma_phase_in r k = get_or r.phases k (record { left = 0; f = nan })

-- a `left` that is neither 0 nor 1: no phase has this form
unfoldable pub strange_phases : ChromaReader → Bool
strange_phases r = (ltb 1 (chroma_phase_in r 0).left || ltb 1 (chroma_phase_in r 1).left) || (ltb 1 (chroma_phase_in r 2).left || ltb 1 (chroma_phase_in r 3).left)

-- nor has a state, or one with such a range
unfoldable pub strange_reader : ChromaReader → Bool
strange_reader r = strange_phases r || ltb 1 r.range

-- the state that C's stands for, and a state's form in C
unfoldable pub as_reader : ChromaReader → Reader
as_reader r = record {
  geometry = record { w = r.w; h = r.h; rh = r.rh; rv = r.rv; cw = r.cw; ch = r.ch; phases = as_phase (chroma_phase_in r 0) ∷ as_phase (chroma_phase_in r 1) ∷ as_phase (chroma_phase_in r 2) ∷ as_phase (chroma_phase_in r 3) ∷ []; range = as_range r.range };
  sample_bytes = r.sample_bytes;
  maxval = r.maxval;
  place = r.place;
  h_next = r.h_next;
  f_next = r.f_next;
}

unfoldable pub chroma_reader : Reader → ChromaReader
chroma_reader r = record {
  w = r.geometry.w;
  h = r.geometry.h;
  rh = r.geometry.rh;
  rv = r.geometry.rv;
  cw = r.geometry.cw;
  ch = r.geometry.ch;
  phases = chroma_phase (phase_in r.geometry 0) ∷ chroma_phase (phase_in r.geometry 1) ∷ chroma_phase (phase_in r.geometry 2) ∷ chroma_phase (phase_in r.geometry 3) ∷ [];
  sample_bytes = r.sample_bytes;
  maxval = r.maxval;
  range = chroma_range r.geometry.range;
  place = r.place;
  h_next = r.h_next;
  f_next = r.f_next;
}
