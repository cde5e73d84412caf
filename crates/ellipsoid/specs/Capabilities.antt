-- Which figures of an inverse problem are wanted: a mask with a bit for each. Assumes nothing.
use Rattle.std.specs.Prelude.{ℕ, Bool, not, ◌==◌, bit_and}

-- the bits of the figures; below them stand the bits of the series that a figure takes
abbrev pub out_mask : ℕ
out_mask = 0xff80

abbrev pub azimuth : ℕ
azimuth = 0x200

abbrev pub distance : ℕ
distance = 0x401

abbrev pub reduced_length : ℕ
reduced_length = 0x1005

abbrev pub geodesic_scale : ℕ
geodesic_scale = 0x2005

-- either of these two
abbrev pub differential : ℕ
differential = 0x3005

abbrev pub area : ℕ
area = 0x4010

-- the mask of an outline's edges: latitude, longitude, distance, area, and longitudes not reduced
abbrev pub polygon_area : ℕ
polygon_area = 0xc599

-- whether one of the figures is wanted
unfoldable pub wants : ℕ → ℕ → Bool
wants mask figures = not (bit_and (bit_and mask out_mask) figures == 0)
