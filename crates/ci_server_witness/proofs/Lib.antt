mod LifeLemmas
mod StoppedLemmas
