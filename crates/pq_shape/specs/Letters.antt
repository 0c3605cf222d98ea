-- Where the keywords of a first letter stand in the keyword table.
use Rattle.std.specs.Prelude.{ℕ, ◌==◌, if◌then◌else◌}

-- the first place of those with this capital, and the place behind their last
unfoldable pub letter_places : ℕ → ℕ × ℕ
letter_places b =
    if b == 65 then (0, 4)
    else if b == 66 then (4, 6)
    else if b == 67 then (6, 8)
    else if b == 68 then (8, 10)
    else if b == 69 then (10, 11)
    else if b == 70 then (11, 14)
    else if b == 73 then (14, 17)
    else if b == 74 then (17, 18)
    else if b == 75 then (18, 19)
    else if b == 76 then (19, 20)
    else if b == 79 then (20, 21)
    else if b == 80 then (21, 24)
    else if b == 82 then (24, 26)
    else if b == 83 then (26, 29)
    else if b == 84 then (29, 32)
    else if b == 85 then (32, 33)
    else if b == 86 then (33, 34)
    else if b == 87 then (34, 35)
    else (0, 0)
