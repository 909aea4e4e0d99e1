mod ChangeLemmas
mod PairLemmas
