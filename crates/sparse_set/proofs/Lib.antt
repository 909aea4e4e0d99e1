mod PageLemmas
mod PlaceLemmas
