mod Prepared
