mod Fitting
mod Making
