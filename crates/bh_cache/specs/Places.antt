-- How cache names and request contexts are spread over the chains of a group, whose number is the group's own.
use Rattle.std.specs.Prelude.{ℕ, ◌-◌, bit_and, List}
use Rattle.bh_cache.specs.Names.{place_of_name, upper_half}

-- by a hash of the request context
unfoldable pub home_of : ℕ → ℕ
home_of context = upper_half context

-- the place of a cache name among n chains, which are a power of two
unfoldable pub place_among : ℕ → ℕ × List ℕ → ℕ
place_among n name = bit_and (place_of_name name) (n - 1)

-- the place of a request context among n chains, which are a power of two
unfoldable pub place_of_context : ℕ → ℕ → ℕ
place_of_context n context = bit_and (home_of context) (n - 1)
